-- What a turn of a world comes to, before lines are released, as the machine's parts have it.
use Rattle.std.specs.Prelude.{◌≡◌, ◌≤◌, ◌+◌, ℕ, List, length, slice_get, Some}
use Rattle.rb_base.specs.declared.limits.TheConstants.{MOST_OPEN_LEVELS}
use Rattle.rb_base.specs.declared.event.Event.{Event}
use Rattle.rb_world.specs.Turn.{Moved, waits}
use Rattle.rb_world.specs.World.{Process}
use Rattle.rb_code.specs.Instructions.Plain.{Code}
use Rattle.rb_code.specs.WordMachine.Turn.{Common, Copy, Standing}
use Rattle.rb_code.specs.WordMachine.WordRun.{WordWorld}
use Rattle.rb_proc.specs.Process.{Seen}
use Rattle.rb_proc.specs.Sees.{AreSized}
use Rattle.rb_machine.specs.AtWork.{IsAtWork}
use Rattle.rb_recovery.specs.Cascade.{SameGroups}
use Rattle.rb_recovery.specs.Parts.{world}
use Rattle.rb_recovery.specs.TestLines.{passes_of}
use Rattle.rb_recovery.specs.Worlds.{NoneWaits}
use Rattle.rb_machine.specs.declared.came.Came.{Came}
use Rattle.rb_recovery.specs.declared.parts.Parts.{Parts}

-- the parts stand for a world of a run before turn number t, and no released line waits
pub record AreAtWork {L : Type 0} (c : Code) (t : ℕ) (parts : Parts L) : Type 0 where
  pub work : IsAtWork c t parts.procs.items parts.table parts.mails parts.links.items
  pub waits : NoneWaits parts.procs.items

-- what a turn of process number p comes to, which is there
abbrev pub MovesAt : {L : Type 0} → Parts L → ℕ → (Process Standing Copy → WordWorld → Moved Standing Copy Common)
    → (Moved Standing Copy Common → Type 0) → Type 0
MovesAt parts p move Is = (one : Seen) → slice_get parts.procs.items p ≡ Some one → Is (move one.process (world parts))

-- The parts have come to where a move of their world leads, with its rejections as events, its kind and its pass.
pub record HasMoved {L : Type 0} (parts : Parts L) (events : List Event) (came : Came) (moved : Moved Standing Copy Common) : Type 0 where
  pub worlds : world parts ≡ moved.world
  pub kind : came.kind ≡ moved.kind
  pub rejections : events ≡ moved.rejections
  pub passes : passes_of came.pass ≡ moved.passes

-- What a move leaves: no line waits, conversations have the same members, and slots their sizes; and there are few events.
pub record IsLeft {L : Type 0} (c : Code) (before after : Parts L) (events : List Event) (came : Came) : Type 0 where
  pub waits : NoneWaits after.procs.items
  pub groups : SameGroups before.table after.table
  pub sized : AreSized c after.mails
  pub few : length (passes_of came.pass) + length events ≤ MOST_OPEN_LEVELS
