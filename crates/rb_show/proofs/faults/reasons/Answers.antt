use Rattle.std.proofs.Common.{ℕ, List, ◌++◌, ap, ◌∙◌, arith}
use Rattle.rb_show.proofs.Faulting.{all_told, one_more}
use Rattle.rb_show.proofs.faults.reasons.Goals as goal

pub loop-fault-preserved : goal.loop-fault-preserved
loop-fault-preserved c =
    one_more c.args.file.now c.args.source.now c.args.faults.now c.loop-fault.fault-index _ c.loop-fault.told.items c.in_ok-reason.reason.items
    c.extend_from_slice.new.self.items (omega arith) c.loop-fault.invariant c.in_ok-reason.ensures
    (c.in_ok-extend_from_slice.ensures.items ∙ ap (λ (reason : List ℕ). c.loop-fault.told.items ++ reason) c.as_slice.ensures.value)

pub returns : goal.returns
returns c =
    all_told c.args.file.now c.args.source.now c.args.faults.now c.loop-fault.fault-index c.loop-fault.told.items (omega arith) c.loop-fault.invariant
