-- An acceptance test that held: who stands at a test line, and who leaves it.
use Rattle.std.specs.Prelude.{◌≡◌, ℕ, ◌<◌, true, List, [], ◌∷◌, length, Option, Some, None}
use Rattle.rb_base.specs.declared.event.Event.{Event}
use Rattle.rb_base.specs.declared.event.TurnKind.TheVariants.{Took}
use Rattle.rb_cache.specs.Copies.{accepted}
use Rattle.rb_world.specs.Kind.{Membership}
use Rattle.rb_world.specs.Turn.{Moved, leaves, stands_now}
use Rattle.rb_world.specs.World.{Process, settled, without_last}
use Rattle.rb_code.specs.Instructions.Plain.{Code}
use Rattle.rb_code.specs.SoundCode.Stands.{SettlesSoundly}
use Rattle.rb_code.specs.WordMachine.Turn.{Common, Copy, Standing}
use Rattle.rb_conv.specs.Conversations.{Conversation}
use Rattle.rb_proc.specs.Process.{Seen, kind_of}
use Rattle.rb_recovery.specs.Worlds.{world_of}

-- once the innermost level goes the process settles
abbrev pub SettlesOnceAccepted : Code → Process Standing Copy → Type 0
SettlesOnceAccepted c q =
    (groups : List Membership) × SettlesSoundly c groups (record q.state { touched = accepted q.state.touched }) (without_last q.levels)

-- who stands at a test line may leave it
abbrev pub MayLeave : Code → ℕ → Seen → Type 0
MayLeave c r one = one.process.at_line ≡ true → SettlesOnceAccepted c one.process

-- the test of an innermost level held
pub record HoldsTest (c : Code) (one : Seen) : Type 0 where
  pub inside : 0 < length one.process.levels
  pub settles : SettlesOnceAccepted c one.process

-- a conversation is one of so many, if there is one
abbrev pub IsListed : ℕ → Option ℕ → Type 0
IsListed n None = Unit {0}
IsListed n (Some d) = d < n

-- the process once its innermost level has gone
abbrev pub level_gone : Code → Seen → Seen
level_gone c one = record one {
  process = settled (kind_of c) (record one.process.state { touched = accepted one.process.state.touched }) (without_last one.process.levels);
}

-- the process at the test line of its innermost level
abbrev pub stood : Seen → Seen
stood one = record one { process = stands_now one.process.state one.process.levels }

-- a process that leaves the test line of a conversation, if it stands there
abbrev pub line_left : Code → ℕ → Seen → Seen
line_left c d one = record one { process = leaves (kind_of c) d one.process }

-- the pass of a turn, if a test line was passed
abbrev pub passes_of : Option Event → List Event
passes_of None = []
passes_of (Some event) = event ∷ []

-- The parts have come to the world of a turn that was taken, with its pass.
pub record HasTaken (memory : Common) (procs : List Seen) (table : List Conversation) (pass : Option Event)
    (moved : Moved Standing Copy Common) : Type 0 where
  pub world : world_of procs table memory ≡ moved.world
  pub kind : moved.kind ≡ Took
  pub rejections : moved.rejections ≡ []
  pub passes : passes_of pass ≡ moved.passes
