use Rattle.std.proofs.Common.{List, ap, arith}
use Rattle.std.proofs.lemmas.List.{take_all}
use Rattle.rb_conv.proofs.Places.{one_more}
use Rattle.rb_world.specs.Reject.{put_back, where_inside}
use Rattle.rb_proc.specs.Process.{Seen, kind_of}
use Rattle.rb_recovery.specs.Rejections.{changed}
use Rattle.rb_recovery.specs.Work.{inside}
use Rattle.rb_recovery.specs.Worlds.{processes_of}
use Rattle.rb_recovery.proofs.Changed.{rest_there}
use Rattle.rb_recovery.proofs.InOrder.{all_in_order, rest_fewer, rest_more}
use Rattle.rb_recovery.proofs.Beginning.SomeCode.{some_code}
use Rattle.rb_recovery.proofs.Working.UndoingWork.{one_back}
use Rattle.rb_recovery.proofs.cascade.put_back_inside.Goals as goal

pub loop-proc-preserved : goal.loop-proc-preserved
loop-proc-preserved g c =
    let xs = c.args.procs.now in
    let ys = c.loop-proc.procs in
    let i = c.loop-proc.proc-index in
    let item = c.proc-item.result in
    let back = changed (where_inside (put_back (kind_of some_code)) c.args.conversation) in
    record {
      so_far = λ code. one_more (changed (where_inside (put_back (kind_of code)) c.args.conversation)) xs ys i item c.put_back_at.new.proc
          c.loop-proc-test.true c.loop-proc.auto.procs (c.loop-proc.invariant.so_far code) (c.put_back_at.ensures.back code);
      rest = rest_more xs ys i c.put_back_at.new.proc (rest_fewer xs ys i c.loop-proc.invariant.rest);
      work = one_back c.args.conversation xs ys i item c.put_back_at.new.proc c.args.steps.now c.loop-proc.steps c.put_back_at.new.steps
          c.loop-proc-test.true c.loop-proc.auto.procs (rest_there back xs ys i item c.loop-proc-test.true (c.loop-proc.invariant.so_far some_code))
          c.loop-proc.invariant.work c.put_back_at.ensures.work;
    }

pub returns-clause-back : goal.returns-clause-back
returns-clause-back g c = λ code.
    all_in_order (changed (where_inside (put_back (kind_of code)) c.args.conversation)) c.args.procs.now c.loop-proc.procs c.loop-proc.proc-index
    (omega (arith, c.loop-proc-test.false)) (c.loop-proc.invariant.so_far code)

pub returns-clause-work : goal.returns-clause-work
returns-clause-work g c =
    let all = ap (λ (procs : List Seen). inside c.args.conversation (processes_of procs))
    (take_all c.loop-proc.proc-index c.args.procs.now (omega (arith, c.loop-proc-test.false))) in
    omega (arith, c.loop-proc.invariant.work)
