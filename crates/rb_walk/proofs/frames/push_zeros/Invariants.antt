use Rattle.std.proofs.Common.{◌≡◌, ◌+◌, ◌≤◌, ◌++◌, length, map, take, vec_capacity, vec_len}
use Rattle.rb_syntax.specs.Plain.{declaration}
use Rattle.rb_meaning.specs.Environment.{frame_of}
use Rattle.rb_walk.specs.Slots.{frame}
use Rattle.rb_walk.proofs.frames.push_zeros.Given as goal

abbrev pub invariant-loop-variable : goal.invariant-loop-variable
invariant-loop-variable l = record {
  same : frame l.slots.items ≡ frame l.fn.slots.items ++ frame_of (map declaration (take l.variable-index l.variables));
  many : vec_len l.slots ≡ vec_len l.fn.slots + l.variable-index;
  room : vec_len l.fn.slots + length l.variables ≤ vec_capacity l.slots;
}
