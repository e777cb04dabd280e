use Rattle.rb_flow.proofs.Starting.{AreFirst}
use Rattle.rb_flow.proofs.ends.starts_of_procedures.Given as goal

abbrev pub invariant-loop-one : goal.invariant-loop-one
invariant-loop-one l = AreFirst l.processes l.one-index l.all.items
