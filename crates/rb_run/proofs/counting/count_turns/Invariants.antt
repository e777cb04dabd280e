-- What was counted so far, and what the turns that are left come to, is what all of them come to.
use Rattle.std.proofs.Common.{◌≡◌, ◌+◌, ◌≤◌, length}
use Rattle.rb_run.specs.Counting.{both_counted, counts, told_counts}
use Rattle.rb_run.specs.Running.{NoneWaits, ran}
use Rattle.rb_run.proofs.TurnsUnseen.{HasRoom, told_left}
use Rattle.rb_run.proofs.TurnsWork.{work_left}
use Rattle.rb_run.proofs.counting.count_turns.Given as goal

abbrev pub invariant-turns : goal.invariant-turns
invariant-turns g l = record {
  waits : NoneWaits l.machine;
  few : l.machine.taken + length l.schedule.left ≤ l.machine.most;
  end : l.machine.taken + length l.schedule.left ≡ length l.schedule.all;
  room : HasRoom (length l.schedule.left) l.tally;
  led : ran l.machine l.schedule.left ≡ ran l.fn.machine l.fn.schedule.left;
  work : l.steps + work_left l.machine l.schedule.left ≤ l.fn.steps + work_left l.fn.machine l.fn.schedule.left;
  counted : both_counted (counts l.tally) (told_counts (told_left l.machine l.schedule.left))
      ≡ both_counted (counts l.fn.tally) (told_counts (told_left l.fn.machine l.fn.schedule.left));
}

abbrev pub decreases-turns : goal.decreases-turns
decreases-turns g l = length l.schedule.left
