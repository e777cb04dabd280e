use Rattle.rb_commands.proofs.trial.try_schedule.Given as goal

abbrev pub ghosts-try_turns : goal.ghosts-try_turns
ghosts-try_turns g a = record { name = a.blank.name; parts = a.blank.parts }
