use Rattle.std.proofs.Common.{◌≡◌, ◌≤◌, length}
use Rattle.rb_back.proofs.stores.gather.Given as goal

abbrev pub invariant-loop-at : goal.invariant-loop-at
invariant-loop-at l = record {
  long : length l.ranges ≡ length l.fn.ranges;
  within : l.at ≤ length l.ranges;
}

abbrev pub decreases-loop-at : goal.decreases-loop-at
decreases-loop-at l = l.at
