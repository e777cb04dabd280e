-- What holds of the machine's parts between two turns, and in a turn once it was counted.
use Rattle.std.specs.Prelude.{◌≡◌, ◌<◌, ◌-◌, ◌^◌, ℕ, false, List, length, slice_get, Some}
use Rattle.rb_world.specs.Slots.{Slots}
use Rattle.rb_world.specs.World.{Running}
use Rattle.rb_code.specs.Instructions.Plain.{Block, Code}
use Rattle.rb_code.specs.SoundCode.WellFormed.{IsSound}
use Rattle.rb_conv.specs.Conversations.{Conversation, memberships}
use Rattle.rb_proc.specs.Executable.{IsExecutable}
use Rattle.rb_proc.specs.Process.{Seen}
use Rattle.rb_proc.specs.Sees.{AreSized}
use Rattle.rb_recovery.specs.Known.{IsKnown}
use Rattle.rb_recovery.specs.Worlds.{counts_of, memory_of, world_of}
use Rattle.rb_recovery.specs.declared.links.Link.{Link}

-- no block has so many alternates that the number of one could not rise
abbrev pub HasFewAlternates : Code → Type 0
HasFewAlternates c = (b : ℕ) (block : Block) → slice_get c.blocks b ≡ Some block → length block.alternates < 2 ^ 32 - 1

-- The parts stand for a world of a run of sound code, before turn number t.
pub record IsAtWork (c : Code) (t : ℕ) (procs : List Seen) (table : List Conversation) (slots : Slots) (links : List Link) : Type 0 where
  pub executable : IsExecutable c
  pub few : HasFewAlternates c
  pub sound : IsSound c (memberships table) (counts_of table)
  pub known : IsKnown c (memberships table) (counts_of table) sound.table t (world_of procs table (memory_of slots links))
  pub sized : AreSized c slots
  pub turns : t < 2 ^ 32

-- process number p is there, runs, and stands at no test line
pub record MayActNow (one : Seen) : Type 0 where
  pub running : one.process.status ≡ Running
  pub away : one.process.at_line ≡ false

abbrev pub MayAct : List Seen → ℕ → Type 0
MayAct procs p = (one : Seen) → slice_get procs p ≡ Some one → MayActNow one
