use Rattle.rb_commands.proofs.image.run_over.Given as goal

abbrev pub ghosts-run_turns : goal.ghosts-run_turns
ghosts-run_turns g a = record { name = a.blank.name; parts = a.blank.parts }
