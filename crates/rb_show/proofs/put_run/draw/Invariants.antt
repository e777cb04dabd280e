use Rattle.rb_show.proofs.put_run.draw.Given as goal

abbrev pub ghosts-draw_turns : goal.ghosts-draw_turns
ghosts-draw_turns g a = record { name = a.blank.name; parts = a.blank.parts }
