use Rattle.std.proofs.Common.{◌≡◌, ◌≤◌, drop, take, vec_capacity, vec_len}
use Rattle.rb_meaning.specs.Environment.{global_words}
use Rattle.rb_plain.proofs.values.values_of.Given as goal

-- the values so far, and room for the others
abbrev pub invariant-loop-k : goal.invariant-loop-k
invariant-loop-k l = record {
  same : l.values.items ≡ take l.k (drop l.variable.at (global_words l.environment));
  many : vec_len l.values ≡ l.k;
  room : l.size ≤ vec_capacity l.values;
}
