use Rattle.rb_commands.proofs.domino.Domino.put.Given as goal

abbrev pub ghosts-tell_outcome : goal.ghosts-tell_outcome
ghosts-tell_outcome g a = record { name = a.blank.name; parts = a.blank.parts }
