use Rattle.rb_lists.proofs.groups.+ends_within.Given as goal

abbrev pub decreases-ends_within : goal.decreases-ends_within
decreases-ends_within l = l.most
