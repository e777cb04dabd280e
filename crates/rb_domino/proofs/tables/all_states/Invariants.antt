use Rattle.std.proofs.Common.{◌+◌, ◌≤◌, length}
use Rattle.rb_domino.specs.Board.{stacks}
use Rattle.rb_domino.proofs.States.{Stacking}
use Rattle.rb_domino.proofs.tables.all_states.Given as goal

abbrev pub invariant-loop-rest : goal.invariant-loop-rest
invariant-loop-rest g l = record {
  stacking : Stacking l.history l.at l.rest (stacks l.states.items);
  work : l.steps + length l.rest ≤ l.fn.steps + length l.history.lines + length l.history.processes;
}

abbrev pub decreases-loop-rest : goal.decreases-loop-rest
decreases-loop-rest g l = length l.rest
