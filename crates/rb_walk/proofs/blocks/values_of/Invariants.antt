use Rattle.std.proofs.Common.{◌≡◌, ◌≤◌, ◌++◌, Ok, drop, length, map, vec_capacity, vec_len}
use Rattle.rb_syntax.specs.Plain.{expression}
use Rattle.rb_meaning.specs.Step.{values_in}
use Rattle.rb_meaning.specs.Value.{and_then}
use Rattle.rb_walk.proofs.blocks.values_of.Given as goal

-- the values of the arguments that are left come behind those that were found, for which there is room
abbrev pub invariant-loop-argument : goal.invariant-loop-argument
invariant-loop-argument l = record {
  same : values_in l.environment (map expression l.arguments)
      ≡ and_then (values_in l.environment (map expression (drop l.argument-index l.arguments))) (λ rest. Ok (l.values.items ++ rest));
  many : vec_len l.values ≡ l.argument-index;
  room : length l.arguments ≤ vec_capacity l.values;
}
