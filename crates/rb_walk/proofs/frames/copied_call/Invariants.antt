use Rattle.std.proofs.Common.{◌≡◌, ◌≤◌, length, map, take, vec_capacity, vec_len}
use Rattle.rb_walk.specs.Slots.{frame}
use Rattle.rb_walk.proofs.frames.copied_call.Given as goal

abbrev pub invariant-loop-slots : goal.invariant-loop-slots
invariant-loop-slots l = record {
  same : map (λ slots. frame slots.items) l.frames.items ≡ map (λ slots. frame slots.items) (take l.slots-index l.call.frames.items);
  many : vec_len l.frames ≡ l.slots-index;
  room : length l.call.frames.items ≤ vec_capacity l.frames;
}
