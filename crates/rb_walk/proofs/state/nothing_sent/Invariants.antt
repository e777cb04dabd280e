-- Nothing was sent on the channels so far, and there is room for the others.
use Rattle.std.proofs.Common.{◌≡◌, ◌≤◌, [], map, replicate, vec_capacity, vec_len}
use Rattle.rb_walk.proofs.state.nothing_sent.Given as goal

abbrev pub invariant-loop : goal.invariant-loop
invariant-loop l = record {
  same : map (λ values. values.items) l.sent.items ≡ replicate l.counter [];
  many : vec_len l.sent ≡ l.counter;
  room : l.channels ≤ vec_capacity l.sent;
}
