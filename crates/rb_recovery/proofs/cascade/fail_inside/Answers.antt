use Rattle.std.proofs.Common.{arith}
use Rattle.rb_conv.proofs.Places.{one_more}
use Rattle.rb_world.specs.Reject.{fallen_inside}
use Rattle.rb_proc.specs.Process.{kind_of}
use Rattle.rb_recovery.specs.Rejections.{changed}
use Rattle.rb_recovery.proofs.InOrder.{all_in_order}
use Rattle.rb_recovery.proofs.cascade.fail_inside.Goals as goal

pub loop-proc-preserved : goal.loop-proc-preserved
loop-proc-preserved g c = λ code.
    one_more (changed (fallen_inside (kind_of code) c.args.conversation)) c.args.procs.now c.loop-proc.procs c.loop-proc.proc-index c.proc-item.result
    c.fail_at.new.proc c.loop-proc-test.true c.loop-proc.auto.procs (c.loop-proc.invariant code) (c.fail_at.ensures code)

pub returns : goal.returns
returns g c = λ code.
    all_in_order (changed (fallen_inside (kind_of code) c.args.conversation)) c.args.procs.now c.loop-proc.procs c.loop-proc.proc-index
    (omega (arith, c.loop-proc-test.false)) (c.loop-proc.invariant code)
