use Rattle.rb_show.proofs.explore.Explore.put.Given as goal

abbrev pub ghosts-search : goal.ghosts-search
ghosts-search g a = record { name = a.blank.name; parts = a.blank.parts }
