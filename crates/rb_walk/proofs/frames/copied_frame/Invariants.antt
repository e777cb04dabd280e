use Rattle.std.proofs.Common.{◌≡◌, ◌≤◌, length, take, vec_capacity, vec_len}
use Rattle.rb_walk.specs.Slots.{frame}
use Rattle.rb_walk.proofs.frames.copied_frame.Given as goal

abbrev pub invariant-loop-slot : goal.invariant-loop-slot
invariant-loop-slot l = record {
  same : frame l.copies.items ≡ frame (take l.slot-index l.slots);
  many : vec_len l.copies ≡ l.slot-index;
  room : length l.slots ≤ vec_capacity l.copies;
}
