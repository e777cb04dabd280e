-- One process after the other.
use Rattle.std.proofs.Common.{arith}
use Rattle.rb_machine.proofs.Releasing.Dropped.{all_counted, none_waits, one_more_counted, one_more_quiet, processes_quiet}
use Rattle.rb_machine.proofs.Releasing.Released.{others_left}
use Rattle.rb_machine.proofs.telling.drop_all_released.Goals as goal

pub overflow_add-count : goal.overflow_add-count
overflow_add-count g c = omega (arith, c.loop-proc.invariant.few, c.drop_released-count.ensures.few, c.loop-proc-test.true, c.requires)

pub loop-proc-preserved : goal.loop-proc-preserved
loop-proc-preserved g c = record {
  quiet_so_far = one_more_quiet c.args.procs.now c.loop-proc.procs c.loop-proc.proc-index c.proc-item.result c.drop_released-count.new.self
      c.loop-proc-test.true c.loop-proc.invariant.quiet_so_far c.proc-item.is c.drop_released-count.ensures.none;
  left = others_left c.args.procs.now c.loop-proc.procs c.loop-proc.proc-index c.proc-item.result c.drop_released-count.new.self
      c.loop-proc-test.true c.loop-proc.auto.procs c.loop-proc.invariant.left;
  counted = one_more_counted c.args.procs.now c.loop-proc.procs c.loop-proc.proc-index c.proc-item.result c.loop-proc-test.true
      c.loop-proc.auto.procs c.loop-proc.invariant.left c.loop-proc.count c.drop_released-count.result c.loop-proc.invariant.counted
      c.drop_released-count.ensures.count;
  few = omega (arith, c.loop-proc.invariant.few, c.drop_released-count.ensures.few);
}

pub returns-clause-count : goal.returns-clause-count
returns-clause-count g c =
    all_counted c.args.procs.now c.loop-proc.procs c.loop-proc.proc-index c.loop-proc-test.false c.loop-proc.invariant.quiet_so_far
    c.loop-proc.count c.loop-proc.invariant.counted

pub returns-clause-few : goal.returns-clause-few
returns-clause-few g c = omega (arith, c.loop-proc.invariant.few, c.loop-proc-test.false, c.requires)

pub returns-clause-processes : goal.returns-clause-processes
returns-clause-processes g c =
    processes_quiet c.args.procs.now c.loop-proc.procs c.loop-proc.proc-index c.loop-proc-test.false c.loop-proc.invariant.quiet_so_far

pub returns-clause-none : goal.returns-clause-none
returns-clause-none g c =
    none_waits c.args.procs.now c.loop-proc.procs c.loop-proc.proc-index c.loop-proc-test.false c.loop-proc.invariant.quiet_so_far
