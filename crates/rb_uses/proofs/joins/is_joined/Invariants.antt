use Rattle.std.proofs.Common.{◌≡◌, length}
use Rattle.std.specs.List.{list_any}
use Rattle.rb_uses.specs.Memory.{all_held}
use Rattle.rb_uses.specs.Summary.{joins_at}
use Rattle.rb_uses.proofs.joins.is_joined.Given as goal

abbrev pub invariant-joins : goal.invariant-joins
invariant-joins l =
    list_any (joins_at l.process l.name) (all_held l.rest) ≡ list_any (joins_at l.process l.name) (all_held l.fn.joins)

abbrev pub decreases-joins : goal.decreases-joins
decreases-joins l = length l.rest
