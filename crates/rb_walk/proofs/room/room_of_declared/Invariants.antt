use Rattle.std.proofs.Common.{◌≡◌, drop, map}
use Rattle.rb_syntax.specs.Plain.{declaration}
use Rattle.rb_meaning.specs.Environment.{frame_of, frame_words}
use Rattle.rb_walk.specs.Slots.{left_of}
use Rattle.rb_walk.proofs.room.room_of_declared.Given as goal

abbrev pub invariant-loop-variable : goal.invariant-loop-variable
invariant-loop-variable l =
    left_of l.left (frame_words (drop l.variable-index (frame_of (map declaration l.variables))))
    ≡ left_of l.most (frame_words (frame_of (map declaration l.variables)))
