use Rattle.std.proofs.Common.{◌≡◌, ◌+◌, ◌≤◌, vec_len}
use Rattle.rb_domino.specs.Board.{Topped, stacks}
use Rattle.rb_domino.proofs.tables.add_now.Given as goal

abbrev pub invariant-loop-p : goal.invariant-loop-p
invariant-loop-p g l = record {
  counted : vec_len l.states ≡ vec_len l.initial.states;
  top : Topped l.end l.p (stacks l.initial.states.items) (stacks l.states.items);
  work : l.steps ≤ l.initial.steps + l.p;
}
