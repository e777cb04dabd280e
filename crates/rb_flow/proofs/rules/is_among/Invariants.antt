use Rattle.std.proofs.Common.{◌≡◌, drop}
use Rattle.rb_flow.specs.Flow.{is_among}
use Rattle.rb_flow.proofs.rules.is_among.Given as goal

abbrev pub invariant-loop-x : goal.invariant-loop-x
invariant-loop-x l = is_among (drop l.x-index l.list) l.a ≡ is_among l.list l.a
