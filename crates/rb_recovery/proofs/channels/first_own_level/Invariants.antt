-- The levels before this one are shared.
use Rattle.std.proofs.Common.{◌≡◌, drop}
use Rattle.rb_world.specs.Channels.{seen_copy}
use Rattle.rb_recovery.proofs.channels.first_own_level.Given as goal

abbrev pub invariant-loop-level : goal.invariant-loop-level
invariant-loop-level g l =
    seen_copy l.sender.process.levels l.receiver.process.levels
    ≡ seen_copy (drop l.level l.sender.process.levels) (drop l.level l.receiver.process.levels)
