-- What a cascade of rejections asks for, and what it leaves.
use Rattle.std.specs.Prelude.{◌≡◌, ℕ, ◌<◌, ◌≤◌, List, ◌++◌, length, slice_get, Some}
use Rattle.std.specs.List.{AllByRecursion}
use Rattle.rb_base.specs.declared.event.Event.{Event}
use Rattle.rb_world.specs.Nested.{AreNested, IsLevelOf}
use Rattle.rb_world.specs.Reject.{Happened}
use Rattle.rb_world.specs.World.{Level}
use Rattle.rb_code.specs.WordMachine.Turn.{Common, Copy, Standing}
use Rattle.rb_code.specs.WordMachine.WordRun.{WordWorld}
use Rattle.rb_conv.specs.Conversations.{Conversation, conversation_at, memberships}
use Rattle.rb_proc.specs.Process.{Seen}
use Rattle.rb_recovery.specs.Worlds.{CanRise, NoneWaits, counts_of, world_of}

-- a level tries the present alternate of its conversation, which has as many alternates as the level's block
pub record TriesWith (table : List Conversation) (d : ℕ) (level : Level Copy) : Type 0 where
  pub there : d < length table
  pub present : level.alternate ≡ (conversation_at table d).talk.alternate
  pub as_many : level.facts.alternates ≡ (conversation_at table d).alternates

-- Process number p can be rejected from the innermost of its first `left` levels on: its levels are nested, and each of these that is of
-- a conversation tries the conversation's present alternate.
pub record MayReject (table : List Conversation) (left : ℕ) (levels : List (Level Copy)) : Type 0 where
  pub within : left ≤ length levels
  pub nested : AreNested (memberships table) levels
  pub tries : (i d : ℕ) (at : IsLevelOf d levels i) → i < left → TriesWith table d at.level

abbrev pub MayRejectAt : List Seen → List Conversation → ℕ → ℕ → Type 0
MayRejectAt procs table p left = (one : Seen) → slice_get procs p ≡ Some one → MayReject table left one.process.levels

-- No line waits, and the alternate of every level can rise.
pub record AreQuiet (procs : List Seen) : Type 0 where
  pub lines : NoneWaits procs
  pub rise : AllByRecursion CanRise procs

-- What happens in a world has happened to the parts: processes and conversations are those of the world after it, and its events were
-- added.
pub record HasHappened (f : WordWorld → Happened Standing Copy Common) (memory : Common) (procs : List Seen) (table : List Conversation)
    (events : List Event) (procs' : List Seen) (table' : List Conversation) (events' : List Event) : Type 0 where
  pub world : world_of procs' table' memory ≡ (f (world_of procs table memory)).0
  pub told : events' ≡ events ++ (f (world_of procs table memory)).1

-- members, parents and numbers of alternates stay
pub record SameGroups (table table' : List Conversation) : Type 0 where
  pub members : memberships table' ≡ memberships table
  pub counts : counts_of table' ≡ counts_of table
