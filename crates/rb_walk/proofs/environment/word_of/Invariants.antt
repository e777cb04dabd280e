use Rattle.std.proofs.Common.{◌≡◌, drop, get_or, pos}
use Rattle.std.specs.List.{flat_map}
use Rattle.rb_walk.specs.Slots.{frame}
use Rattle.rb_walk.proofs.environment.word_of.Given as goal

abbrev pub invariant-loop-slot : goal.invariant-loop-slot
invariant-loop-slot l =
    get_or (flat_map (λ stored. stored.values) (drop l.slot-index (frame l.slots))) l.left (pos 0)
    ≡ get_or (flat_map (λ stored. stored.values) (frame l.slots)) l.at (pos 0)
