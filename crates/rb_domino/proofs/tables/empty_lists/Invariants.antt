use Rattle.std.proofs.Common.{◌≡◌, ◌+◌, ◌≤◌, [], replicate, vec_capacity, vec_len}
use Rattle.rb_domino.specs.Board.{stacks}
use Rattle.rb_domino.proofs.tables.empty_lists.Given as goal

abbrev pub invariant-loop-made : goal.invariant-loop-made
invariant-loop-made g l = record {
  lists : stacks l.lists.items ≡ replicate l._made [];
  many : vec_len l.lists ≡ l._made;
  room : l.n ≤ vec_capacity l.lists;
  work : l.steps ≤ l.initial.steps + l._made;
}
