use Rattle.std.proofs.Common.{◌≡◌, ◌+◌, ◌≤◌, length}
use Rattle.rb_sched.specs.Schedule.{lines_of}
use Rattle.rb_why.specs.Stuck.{line_of_turn}
use Rattle.rb_why.proofs.stuck.line_of_turn.Given as goal

abbrev pub invariant-loop-rest : goal.invariant-loop-rest
invariant-loop-rest l = record {
  same : line_of_turn l.turn l.at (lines_of l.rest) ≡ line_of_turn l.turn 0 (lines_of l.text);
  few : l.at + length l.rest ≤ length l.text;
}

abbrev pub decreases-loop-rest : goal.decreases-loop-rest
decreases-loop-rest l = length l.rest
