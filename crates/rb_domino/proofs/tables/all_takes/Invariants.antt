use Rattle.std.proofs.Common.{◌≡◌, ◌+◌, ◌≤◌, None, length, replicate, vec_capacity, vec_len}
use Rattle.rb_domino.proofs.AllTaken.{Taking}
use Rattle.rb_domino.proofs.tables.all_takes.Given as goal

abbrev pub invariant-loop-made : goal.invariant-loop-made
invariant-loop-made g l = record {
  takes : l.takes.items ≡ replicate l._made None;
  many : vec_len l.takes ≡ l._made;
  room : l.messages ≤ vec_capacity l.takes;
  work : l.steps ≤ l.fn.steps + l._made;
}

abbrev pub invariant-loop-rest : goal.invariant-loop-rest
invariant-loop-rest g l = record {
  taking : Taking l.history l.at l.rest l.takes.items;
  work : l.steps ≤ l.fn.steps + length l.history.messages + l.at;
}

abbrev pub decreases-loop-rest : goal.decreases-loop-rest
decreases-loop-rest g l = length l.rest
