-- All members behind those that are left stand at the line.
use Rattle.std.proofs.Common.{◌≡◌, ◌≤◌, true, drop, length, slice_get}
use Rattle.std.specs.List.{list_all}
use Rattle.rb_world.specs.Turn.{stands_there}
use Rattle.rb_conv.specs.Conversations.{conversation_at, membership}
use Rattle.rb_recovery.specs.Worlds.{processes_of}
use Rattle.rb_recovery.proofs.test_line.all_stand.Given as goal

abbrev pub invariant-loop-left : goal.invariant-loop-left
invariant-loop-left g l =
    record {
      left : l.left ≤ length (membership (conversation_at l.table l.conversation)).members;
      stand : list_all (λ m. stands_there l.conversation (slice_get (processes_of l.procs) m))
          (drop l.left (membership (conversation_at l.table l.conversation)).members)
          ≡ true;
    }

abbrev pub decreases-loop-left : goal.decreases-loop-left
decreases-loop-left g l = l.left
