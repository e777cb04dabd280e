-- What was taken away held nothing.
use Rattle.std.proofs.Common.{◌≡◌, reverse, vec_len}
use Rattle.rb_walk.specs.Items.{items_of}
use Rattle.rb_walk.proofs.items.skip.Given as goal

abbrev pub invariant-items : goal.invariant-items
invariant-items l = items_of (reverse l.items.items) ≡ items_of (reverse l.initial.items.items)

abbrev pub decreases-items : goal.decreases-items
decreases-items l = vec_len l.items
