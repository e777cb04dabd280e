use Rattle.std.proofs.Common.{◌≡◌, drop, map}
use Rattle.rb_meaning.specs.Environment.{frames_words}
use Rattle.rb_walk.specs.Slots.{frame, left_of}
use Rattle.rb_walk.proofs.room.room_of_frames.Given as goal

abbrev pub invariant-loop-slots : goal.invariant-loop-slots
invariant-loop-slots l =
    left_of l.left (frames_words (drop l.slots-index (map (λ slots. frame slots.items) l.frames)))
    ≡ left_of l.most (frames_words (map (λ slots. frame slots.items) l.frames))
