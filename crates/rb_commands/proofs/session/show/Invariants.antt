use Rattle.rb_commands.proofs.session.show.Given as goal

abbrev pub ghosts-follow : goal.ghosts-follow
ghosts-follow g a = record { name = a.blank.name; parts = a.blank.parts }
