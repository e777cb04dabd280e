use Rattle.std.proofs.Common.{◌+◌, ◌≤◌, length}
use Rattle.rb_domino.specs.Board.{stacks}
use Rattle.rb_domino.proofs.AllSent.{Sending}
use Rattle.rb_domino.proofs.tables.all_sends.Given as goal

abbrev pub invariant-loop-rest : goal.invariant-loop-rest
invariant-loop-rest g l = record {
  sending : Sending l.history l.m l.rest (stacks l.sends.items);
  work : l.steps ≤ l.fn.steps + length l.history.processes + l.m;
}

abbrev pub decreases-loop-rest : goal.decreases-loop-rest
decreases-loop-rest g l = length l.rest
