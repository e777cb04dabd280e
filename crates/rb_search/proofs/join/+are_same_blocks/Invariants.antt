use Rattle.rb_search.proofs.join.+are_same_blocks.Given as goal

abbrev pub decreases-are_same_blocks : goal.decreases-are_same_blocks
decreases-are_same_blocks l = l.a
