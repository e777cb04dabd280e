use Rattle.std.proofs.Common.{◌≡◌, ◌≤◌, ◌++◌, length, map, drop, vec_capacity, vec_len}
use Rattle.rb_syntax.specs.Plain.{identifier}
use Rattle.rb_meaning.specs.Step.{bound_to}
use Rattle.rb_walk.specs.Slots.{frame}
use Rattle.rb_walk.proofs.frames.bound.Given as goal

abbrev pub invariant-loop-place : goal.invariant-loop-place
invariant-loop-place l = record {
  same : frame l.slots.items ++ bound_to (map identifier (drop l.place l.parameters)) (drop l.place l.values)
      ≡ bound_to (map identifier l.parameters) l.values;
  many : vec_len l.slots ≡ l.place;
  room : length l.parameters ≤ vec_capacity l.slots;
}
