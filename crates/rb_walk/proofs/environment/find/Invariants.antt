use Rattle.std.proofs.Common.{◌≡◌, length}
use Rattle.rb_meaning.specs.Environment.{found_in}
use Rattle.rb_walk.specs.Slots.{frame}
use Rattle.rb_walk.proofs.environment.find.Given as goal

abbrev pub invariant-loop-slots : goal.invariant-loop-slots
invariant-loop-slots l = found_in l.name (frame l.slots) ≡ found_in l.name (frame l.initial.slots)

abbrev pub decreases-loop-slots : goal.decreases-loop-slots
decreases-loop-slots l = length l.slots
