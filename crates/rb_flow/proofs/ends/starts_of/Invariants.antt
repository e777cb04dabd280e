use Rattle.std.proofs.Common.{◌≡◌, ℕ, drop, map}
use Rattle.std.specs.BTreeSet.{contains}
use Rattle.std.specs.Ordering.{nat_cmp}
use Rattle.rb_code.specs.Instructions.Plain.{procedure}
use Rattle.rb_flow.specs.Flow.{either, is_start_among}
use Rattle.rb_flow.proofs.ends.starts_of.Given as goal

abbrev pub invariant-loop-one : goal.invariant-loop-one
invariant-loop-one l = (a : ℕ) → either (contains nat_cmp l.starts a) (is_start_among (map procedure (drop l.one-index l.procedures)) a)
    ≡ is_start_among (map procedure l.procedures) a
