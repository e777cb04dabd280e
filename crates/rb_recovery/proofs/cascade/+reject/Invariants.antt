use Rattle.rb_recovery.proofs.cascade.+reject.Given as goal

-- proposed from what the function passes where it calls itself
abbrev pub decreases-reject : goal.decreases-reject
decreases-reject g l = l.left
