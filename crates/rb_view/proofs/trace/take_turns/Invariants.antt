-- The turns so far were written, and those that are left come to what all of them come to.
use Rattle.std.proofs.Common.{◌≡◌, ◌+◌, ◌≤◌, length}
use Rattle.rb_trace.specs.Naming.{naming}
use Rattle.rb_run.specs.Running.{NoneWaits, ran}
use Rattle.rb_run.proofs.Completes.{Remains}
use Rattle.rb_view.specs.Steady.{IsOfRun, noted_now}
use Rattle.rb_view.proofs.Turning.{turns_shown}
use Rattle.rb_view.proofs.trace.take_turns.Given as goal

abbrev pub invariant-turns : goal.invariant-turns
invariant-turns g l = record {
  code : l.machine.code ≡ l.fn.machine.code;
  groups : l.machine.groups ≡ l.fn.machine.groups;
  of_run : IsOfRun l.machine;
  waits : NoneWaits l.machine;
  kept : l.was ≡ noted_now l.machine;
  few : l.machine.taken + length l.schedule.left ≤ l.machine.most;
  led : ran l.machine l.schedule.left ≡ ran l.fn.machine l.fn.schedule.left;
  text : Remains (turns_shown (naming l.names) l.places l.machine l.schedule.left)
      (turns_shown (naming l.names) l.places l.fn.machine l.fn.schedule.left) (g.S.Sink.written l.fn.out) (g.S.Sink.written l.out)
      (g.S.Sink.faults l.fn.out) (g.S.Sink.faults l.out);
}

abbrev pub decreases-turns : goal.decreases-turns
decreases-turns g l = length l.schedule.left
