use Rattle.rb_search.proofs.join.+meet_lists.Given as goal

abbrev pub decreases-meet_lists : goal.decreases-meet_lists
decreases-meet_lists l = l.a
