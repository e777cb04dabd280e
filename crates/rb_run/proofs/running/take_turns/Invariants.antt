-- The turns so far were written, and those that are left come to what all of them come to.
use Rattle.std.proofs.Common.{◌≡◌, ◌+◌, ◌≤◌, length}
use Rattle.rb_trace.specs.Naming.{naming}
use Rattle.rb_run.specs.Running.{NoneWaits, ran}
use Rattle.rb_run.proofs.Completes.{Remains}
use Rattle.rb_run.proofs.TurnsTaken.{turns_left}
use Rattle.rb_run.proofs.TurnsWork.{work_left}
use Rattle.rb_run.proofs.running.take_turns.Given as goal

abbrev pub invariant-turns : goal.invariant-turns
invariant-turns g l = record {
  named : length l.names.processes.items ≡ length l.machine.world.processes;
  waits : NoneWaits l.machine;
  few : l.machine.taken + length l.schedule.left ≤ l.machine.most;
  end : l.machine.taken + length l.schedule.left ≡ length l.schedule.all;
  led : ran l.machine l.schedule.left ≡ ran l.fn.machine l.fn.schedule.left;
  work : l.steps + work_left l.machine l.schedule.left ≤ l.fn.steps + work_left l.fn.machine l.fn.schedule.left;
  text : Remains (turns_left (naming l.names) l.machine l.schedule.left)
      (turns_left (naming l.names) l.fn.machine l.fn.schedule.left) (g.S.Sink.written l.fn.out) (g.S.Sink.written l.out)
      (g.S.Sink.faults l.fn.out) (g.S.Sink.faults l.out);
}

abbrev pub decreases-turns : goal.decreases-turns
decreases-turns g l = length l.schedule.left
