use Rattle.rb_tests.proofs.cache_tests.limits.Given as goal

abbrev pub ghosts-at_the_limits : goal.ghosts-at_the_limits
ghosts-at_the_limits g a = record { name = a.blank.name; parts = a.blank.parts }
