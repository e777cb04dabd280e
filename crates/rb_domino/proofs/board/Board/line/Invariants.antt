use Rattle.std.proofs.Common.{◌≡◌, ◌+◌, ◌≤◌, take, vec_capacity, vec_len}
use Rattle.rb_domino.specs.Board.{left_on}
use Rattle.rb_domino.specs.Recovery.{line_of}
use Rattle.rb_domino.proofs.board.Board.line.Given as goal

abbrev pub invariant-loop-states : goal.invariant-loop-states
invariant-loop-states g l = record {
  line : l.line.items ≡ take l.states-index (line_of (left_on l.self));
  many : vec_len l.line ≡ l.states-index;
  room : vec_len l.self.states ≤ vec_capacity l.line;
  work : l.steps ≤ l.initial.steps + l.states-index;
}
