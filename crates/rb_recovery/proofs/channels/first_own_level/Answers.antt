-- A level that is not shared is the sender's own, and a shared one is passed.
use Rattle.std.proofs.Common.{◌≡◌, ◌<◌, true, false, length, slice_get, arith}
use Rattle.rb_world.specs.World.{is_shared}
use Rattle.rb_world.proofs.ListFacts.{slice_get-there}
use Rattle.rb_recovery.specs.Channels.{conversation_in}
use Rattle.rb_recovery.proofs.Passing.SeenCopies.{own_is_seen, shared_passes}
use Rattle.rb_recovery.proofs.channels.first_own_level.Goals as goal

pub returns-then-not-is_shared : goal.returns-then-not-is_shared
returns-then-not-is_shared g c =
    let outer = c.args.sender.now.process.levels in
    let others = c.args.receiver.now.process.levels in
    let k = c.loop-level.level in
    let within : k < length outer = omega (arith, c.loop-level-test.true, c.levels-level-end.ensures) in
    let found = slice_get-there outer k within in
    let of_one = c.conversation_at-own.ensures in
    let of_other = c.conversation_at-other.ensures in
    let tested = c.is_shared.ensures in
    let failed = c.if-not-is_shared.true in
    let own : is_shared (conversation_in (slice_get outer k)) (conversation_in (slice_get others k)) ≡ false = cc in
    record { copy = own_is_seen outer others k found.0 found.1 own c.loop-level.invariant }

pub loop-level-preserved : goal.loop-level-preserved
loop-level-preserved g c =
    let outer = c.args.sender.now.process.levels in
    let others = c.args.receiver.now.process.levels in
    let k = c.loop-level.level in
    let of_one = c.conversation_at-own.ensures in
    let of_other = c.conversation_at-other.ensures in
    let tested = c.is_shared.ensures in
    let held = c.if-not-is_shared.false in
    let shared : is_shared (conversation_in (slice_get outer k)) (conversation_in (slice_get others k)) ≡ true = cc in
    shared_passes outer others k shared c.loop-level.invariant
