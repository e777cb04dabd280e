-- The lists before this one are counted, and there is room for the others.
use Rattle.std.proofs.Common.{◌≡◌, ◌≤◌, length, map, take, vec_capacity, vec_len}
use Rattle.rb_plain.proofs.entry.lengths_of.Given as goal

abbrev pub invariant-loop-values : goal.invariant-loop-values
invariant-loop-values l = record {
  same : l.lengths.items ≡ map length (map (λ values. values.items) (take l.values-index l.lists));
  many : vec_len l.lengths ≡ l.values-index;
  room : length l.lists ≤ vec_capacity l.lengths;
}
