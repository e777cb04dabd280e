-- The turns that are left lead to where all of them lead.
use Rattle.std.proofs.Common.{◌≡◌, ◌+◌, ◌≤◌, length}
use Rattle.rb_run.specs.Running.{NoneWaits, ran}
use Rattle.rb_run.proofs.TurnsWork.{work_left}
use Rattle.rb_run.proofs.surviving.take_unseen.Given as goal

abbrev pub invariant-turns : goal.invariant-turns
invariant-turns g l = record {
  waits : NoneWaits l.machine;
  few : l.machine.taken + length l.schedule.left ≤ l.machine.most;
  end : l.machine.taken + length l.schedule.left ≡ length l.schedule.all;
  led : ran l.machine l.schedule.left ≡ ran l.fn.machine l.fn.schedule.left;
  work : l.steps + work_left l.machine l.schedule.left ≤ l.fn.steps + work_left l.fn.machine l.fn.schedule.left;
}

abbrev pub decreases-turns : goal.decreases-turns
decreases-turns g l = length l.schedule.left
