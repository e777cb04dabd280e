use Rattle.rb_machine.proofs.Releasing.Released.{all_released, lines_of_freed, one_more_freed, others_left, processes_freed}
use Rattle.rb_machine.proofs.Working.ReleaseWork.{all_releases, one_more_release}
use Rattle.rb_recovery.proofs.Beginning.SomeCode.{some_code}
use Rattle.rb_machine.proofs.telling.release_all.Goals as goal

pub loop-proc-preserved : goal.loop-proc-preserved
loop-proc-preserved g c = record {
  freed = λ code. one_more_freed code c.args.procs.now c.loop-proc.procs c.loop-proc.proc-index c.proc-item.result c.release_if_free.new.self
      c.loop-proc-test.true (c.loop-proc.invariant.freed code) c.proc-item.is (c.release_if_free.ensures.freed code);
  left = others_left c.args.procs.now c.loop-proc.procs c.loop-proc.proc-index c.proc-item.result c.release_if_free.new.self
      c.loop-proc-test.true c.loop-proc.auto.procs c.loop-proc.invariant.left;
  work = one_more_release c.args.procs.now c.loop-proc.procs c.loop-proc.proc-index c.proc-item.result c.release_if_free.new.self
      c.loop-proc-test.true c.loop-proc.auto.procs c.loop-proc.invariant.left _ _ _ c.loop-proc.invariant.work c.release_if_free.ensures.ticks
      (c.release_if_free.ensures.freed some_code) c.release_if_free.ensures.quiet c.release_if_free.ensures.within;
}

pub returns-clause-processes : goal.returns-clause-processes
returns-clause-processes g c code groups =
    processes_freed code groups c.args.procs.now c.loop-proc.procs
    (all_released code c.args.procs.now c.loop-proc.procs c.loop-proc.proc-index c.loop-proc-test.false (c.loop-proc.invariant.freed code))

pub returns-clause-lines : goal.returns-clause-lines
returns-clause-lines g c code groups =
    lines_of_freed code groups c.args.procs.now c.loop-proc.procs
    (all_released code c.args.procs.now c.loop-proc.procs c.loop-proc.proc-index c.loop-proc-test.false (c.loop-proc.invariant.freed code))

pub returns-clause-work : goal.returns-clause-work
returns-clause-work g c =
    all_releases c.args.procs.now c.loop-proc.procs c.loop-proc.proc-index c.loop-proc-test.false
    (all_released some_code c.args.procs.now c.loop-proc.procs c.loop-proc.proc-index c.loop-proc-test.false (c.loop-proc.invariant.freed some_code))
    _ _ c.loop-proc.invariant.work
