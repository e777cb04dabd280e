use Rattle.rb_conv.proofs.Places.{one_more}
use Rattle.rb_world.specs.Reject.{raised, where_inside}
use Rattle.rb_recovery.specs.Rejections.{changed}
use Rattle.rb_recovery.proofs.InOrder.{rest_fewer, rest_more}
use Rattle.rb_recovery.proofs.cascade.raise_inside.Goals as goal

pub loop-proc-preserved : goal.loop-proc-preserved
loop-proc-preserved g c =
    let xs = c.args.procs.now in
    let ys = c.loop-proc.procs in
    let i = c.loop-proc.proc-index in
    record {
      so_far = one_more (changed (where_inside raised c.args.conversation)) xs ys i c.proc-item.result c.raise_at.new.proc
          c.loop-proc-test.true c.loop-proc.auto.procs c.loop-proc.invariant.so_far c.raise_at.ensures;
      rest = rest_more xs ys i c.raise_at.new.proc (rest_fewer xs ys i c.loop-proc.invariant.rest);
    }
