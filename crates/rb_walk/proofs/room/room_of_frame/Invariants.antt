use Rattle.std.proofs.Common.{◌≡◌, drop}
use Rattle.rb_meaning.specs.Environment.{frame_words}
use Rattle.rb_walk.specs.Slots.{frame, left_of}
use Rattle.rb_walk.proofs.room.room_of_frame.Given as goal

abbrev pub invariant-loop-slot : goal.invariant-loop-slot
invariant-loop-slot l =
    left_of l.left (frame_words (drop l.slot-index (frame l.slots))) ≡ left_of l.most (frame_words (frame l.slots))
