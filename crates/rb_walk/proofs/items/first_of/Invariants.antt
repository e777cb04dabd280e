-- What is above the place that is reached holds nothing.
use Rattle.std.proofs.Common.{◌≡◌, ◌≤◌, length, reverse, take}
use Rattle.rb_walk.specs.Items.{items_of}
use Rattle.rb_walk.proofs.items.first_of.Given as goal

abbrev pub invariant-loop-left : goal.invariant-loop-left
invariant-loop-left l = record {
  within : l.left ≤ length l.items;
  same : items_of (reverse l.items) ≡ items_of (reverse (take l.left l.items));
}

abbrev pub decreases-loop-left : goal.decreases-loop-left
decreases-loop-left l = l.left
