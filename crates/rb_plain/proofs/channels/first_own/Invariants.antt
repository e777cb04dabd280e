-- The levels before these are shared.
use Rattle.std.proofs.Common.{◌≡◌, length, map}
use Rattle.rb_world.specs.Channels.{seen_copy}
use Rattle.rb_levels.specs.Worlds.{level_of}
use Rattle.rb_plain.proofs.channels.first_own.Given as goal

abbrev pub invariant-loop-levels : goal.invariant-loop-levels
invariant-loop-levels l =
    seen_copy (map level_of l.levels) (map level_of l.others)
    ≡ seen_copy (map level_of l.initial.levels) (map level_of l.initial.others)

abbrev pub decreases-loop-levels : goal.decreases-loop-levels
decreases-loop-levels l = length l.levels
