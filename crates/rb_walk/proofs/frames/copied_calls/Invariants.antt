use Rattle.std.proofs.Common.{◌≡◌, ◌≤◌, length, map, take, vec_capacity, vec_len}
use Rattle.rb_walk.specs.Slots.{frames_of}
use Rattle.rb_walk.proofs.frames.copied_calls.Given as goal

abbrev pub invariant-loop-call : goal.invariant-loop-call
invariant-loop-call l = record {
  same : map frames_of l.copies.items ≡ map frames_of (take l.call-index l.calls);
  many : vec_len l.copies ≡ l.call-index;
  room : length l.calls ≤ vec_capacity l.copies;
}
