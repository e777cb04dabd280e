use Rattle.std.proofs.Common.{◌≡◌, ◌++◌, length}
use Rattle.rb_uses.specs.Memory.{all_held}
use Rattle.rb_uses.specs.Summary.{joins_among}
use Rattle.rb_uses.proofs.joins.joins_among.Given as goal

-- those so far, and those among the others
abbrev pub invariant-uses : goal.invariant-uses
invariant-uses l = all_held l.joins.items ++ joins_among (all_held l.rest) ≡ joins_among (all_held l.fn.uses)

abbrev pub decreases-uses : goal.decreases-uses
decreases-uses l = length l.rest
