use Rattle.std.proofs.Common.{◌≡◌, drop, map, sum_by}
use Rattle.rb_meaning.specs.Environment.{frames_words}
use Rattle.rb_walk.specs.Slots.{frames_of, left_of}
use Rattle.rb_walk.proofs.room.room_of_calls.Given as goal

abbrev pub invariant-loop-call : goal.invariant-loop-call
invariant-loop-call l =
    left_of l.left (sum_by frames_words (drop l.call-index (map frames_of l.calls))) ≡ left_of l.most (sum_by frames_words (map frames_of l.calls))
