-- What a turn has come to before its end, by what the process did in it, and what its end makes of that.
use Rattle.std.specs.Prelude.{◌≡◌, ℕ, ◌+◌, ◌*◌, ◌-◌, ◌<◌, ◌≤◌, ◌^◌, Bool, true, false, List, length, slice_get, Option, Some, None}
use Rattle.rb_base.specs.declared.event.Cause.{Cause}
use Rattle.rb_base.specs.declared.event.Event.{Event}
use Rattle.rb_base.specs.declared.event.TurnKind.{TurnKind}
use Rattle.rb_base.specs.declared.limits.TheConstants.{MOST_OPEN_LEVELS}
use Rattle.rb_world.specs.Kind.{Membership}
use Rattle.rb_world.specs.Reject.{reject}
use Rattle.rb_world.specs.Standing.{Each}
use Rattle.rb_world.specs.Turn.{Moved, Told, accepted, acts, idles, move, took, turn, undone, waits}
use Rattle.rb_world.specs.World.{Process, last_of}
use Rattle.rb_code.specs.Instructions.Plain.{Code}
use Rattle.rb_code.specs.WordMachine.Turn.{Common, Copy, Standing, want}
use Rattle.rb_code.specs.WordMachine.WordRun.{WordWorld}
use Rattle.rb_conv.specs.Conversations.{memberships}
use Rattle.rb_proc.specs.Entries.{WantsBlock}
use Rattle.rb_proc.specs.Executable.{IsExecutable}
use Rattle.rb_proc.specs.Process.{Seen}
use Rattle.rb_proc.specs.Sees.{AreSized}
use Rattle.rb_machine.specs.AtWork.{IsAtWork, MayAct}
use Rattle.rb_recovery.specs.Cascade.{AreQuiet, MayRejectAt, SameGroups}
use Rattle.rb_recovery.specs.Channels.{conversation_in}
use Rattle.rb_recovery.specs.Links.{HasRoom}
use Rattle.rb_machine.specs.Moves.{AreAtWork, HasMoved, IsLeft}
use Rattle.rb_recovery.specs.Parts.{world}
use Rattle.rb_recovery.specs.TestLines.{HoldsTest, IsListed, MayLeave}
use Rattle.rb_machine.specs.Telling.{AreFreed, GoesOn, IsQuiet, running_of}
use Rattle.rb_machine.specs.Turns.{runs_there}
use Rattle.rb_recovery.specs.Work.{named_accepted, releasing, undoing}
use Rattle.rb_recovery.specs.Worlds.{NoneWaits, kind_with, lines_of, memory_of, processes_of}
use Rattle.rb_machine.specs.declared.came.Came.{Came}
use Rattle.rb_machine.specs.declared.moves.Move.{Move}
use Rattle.rb_machine.specs.declared.moves.Move.TheVariants as did
use Rattle.rb_recovery.specs.declared.parts.Parts.{Parts}

-- a process that took a step goes on, and there is nothing to tell and nothing to release
pub record HasGone {L : Type 0} (p : ℕ) (parts : Parts L) (moved : Moved Standing Copy Common) : Type 0 where
  pub moves : moved ≡ took (world parts)
  pub goes_on : (one : Seen) → slice_get parts.procs.items p ≡ Some one → GoesOn one

-- the test of process number p's innermost level held, and is to be accepted
pub record IsToAccept {L : Type 0} (c : Code) (p : ℕ) (parts : Parts L) (moved : Moved Standing Copy Common) : Type 0 where
  pub one : Seen
  pub there : slice_get parts.procs.items p ≡ Some one
  pub executable : IsExecutable c
  pub holds : HoldsTest c one
  pub listed : IsListed (length parts.table) (conversation_in (last_of one.process.levels))
  pub leave : Each (MayLeave c) parts.procs.items
  pub moves : moved
      ≡ accepted (kind_with c parts.table) p one.process.levels (last_of one.process.levels) (world parts)
      (one.process.state, memory_of parts.mails parts.links.items)

-- going back costs the same from one world of processes as from another
abbrev pub CostsTheSame : List (Process Standing Copy) → List (Process Standing Copy) → Type 0
CostsTheSame now before =
    (kind : TurnKind) (events : List Event) (after : List (Process Standing Copy)) → undoing kind now events after ≡ undoing kind before events after

-- process number p wants to enter a block, and nothing was done yet but to count the turn
pub record IsToEnter {L : Type 0} (c : Code) (t p b : ℕ) (before : List (Process Standing Copy)) (parts : Parts L)
    (moved : Moved Standing Copy Common) : Type 0 where
  pub one : Seen
  pub there : slice_get parts.procs.items p ≡ Some one
  pub work : AreAtWork c (t + 1) parts
  pub acting : MayAct parts.procs.items p
  pub wants : WantsBlock b (want c one.process.state)
  pub room : HasRoom parts.links
  pub moves : moved ≡ acts (kind_with c parts.table) t p one.process (world parts) (want c one.process.state)
  pub costs : CostsTheSame (processes_of parts.procs.items) before

-- process number p is to be rejected from the innermost of its first `left` levels on
pub record IsToReject {L : Type 0} (c : Code) (p left : ℕ) (cause : Cause) (before : List (Process Standing Copy)) (parts : Parts L)
    (moved : Moved Standing Copy Common) : Type 0 where
  pub there : p < length parts.procs.items
  pub may : MayRejectAt parts.procs.items parts.table p left
  pub quiet : AreQuiet parts.procs.items
  pub few : left ≤ MOST_OPEN_LEVELS
  pub moves : moved ≡ undone (reject (kind_with c parts.table) p left cause (world parts))
  pub costs : CostsTheSame (processes_of parts.procs.items) before

-- What a turn is known to lead to by what process number p did in it, with these processes before it.
abbrev pub LeadsTo : {L : Type 0} → Code → ℕ → ℕ → List (Process Standing Copy) → Parts L → Move → Moved Standing Copy Common → Type 0
LeadsTo c t p before parts did.Rests moved = moved ≡ idles (world parts)
LeadsTo c t p before parts did.Waits moved = moved ≡ waits (world parts)
LeadsTo c t p before parts did.Went moved = HasGone p parts moved
LeadsTo c t p before parts did.Tells moved = moved ≡ took (world parts)
LeadsTo c t p before parts did.Accepts moved = IsToAccept c p parts moved
LeadsTo c t p before parts (did.Enters b) moved = IsToEnter c t p b before parts moved
LeadsTo c t p before parts (did.Rejects left cause) moved = IsToReject c p left cause before parts moved

-- what stays until the end of a turn: the conversations are as before it, no line waits, and slots have their sizes
pub record StaysOpen {L : Type 0} (c : Code) (before now : Parts L) : Type 0 where
  pub table : now.table ≡ before.table
  pub waits : NoneWaits now.procs.items
  pub sized : AreSized c now.mails

-- how many links the end of a turn adds
abbrev pub links_yet : Move → ℕ
links_yet (did.Enters b) = 1
links_yet did.Rests = 0
links_yet did.Waits = 0
links_yet did.Went = 0
links_yet did.Tells = 0
links_yet did.Accepts = 0
links_yet (did.Rejects left cause) = 0

-- the words that are named at the end of a turn: those on the way to the next turn of whoever loses a level by acceptance
abbrev pub named_by_test : Code → List Membership → ℕ → WordWorld → Option (Process Standing Copy) → ℕ
named_by_test c groups p w None = 0
named_by_test c groups p w (Some q) = named_accepted c groups p q.levels (last_of q.levels) w q.state

abbrev pub named_yet : Code → List Membership → ℕ → WordWorld → Move → ℕ
named_yet c groups p w did.Accepts = named_by_test c groups p w (slice_get w.processes p)
named_yet c groups p w did.Rests = 0
named_yet c groups p w did.Waits = 0
named_yet c groups p w did.Went = 0
named_yet c groups p w did.Tells = 0
named_yet c groups p w (did.Enters b) = 0
named_yet c groups p w (did.Rejects left cause) = 0

-- Turn number t of process number p has begun in parts that were at work, and the process has done this in it.
pub record IsUnderWay {L : Type 0} (c : Code) (t p : ℕ) (before now : Parts L) (running : List Bool) (m : Move) : Type 0 where
  pub work : AreAtWork c t before
  pub turns : t < 2 ^ 32 - 1
  pub noted : running ≡ running_of (processes_of before.procs.items)
  pub freed : AreFreed (processes_of before.procs.items)
  pub stays : StaysOpen c before now
  pub ran : m ≡ did.Went → runs_there (slice_get (processes_of before.procs.items) p) ≡ true
  pub leads : LeadsTo c t p (processes_of before.procs.items) now m (move (kind_with c before.table) t p (world before))

-- Such a turn has come to where its world leads, and what is left is to tell and to release.
pub record HasCome {L : Type 0} (c : Code) (t p : ℕ) (before now : Parts L) (running : List Bool) (events : List Event) (came : Came) : Type 0 where
  pub work : AreAtWork c t before
  pub turns : t < 2 ^ 32 - 1
  pub noted : running ≡ running_of (processes_of before.procs.items)
  pub freed : AreFreed (processes_of before.procs.items)
  pub moved : HasMoved now events came (move (kind_with c before.table) t p (world before))
  pub left : IsLeft c before now events came
  pub quiet : came.quiet ≡ true → IsQuiet came now.procs.items p
  pub ran : came.quiet ≡ true → runs_there (slice_get (processes_of before.procs.items) p) ≡ true

-- The turn is over: the parts stand for the world of the word machine after it, at work, and this is told of it.
pub record IsTurned {L : Type 0} (c : Code) (t p : ℕ) (before after : Parts L) (running : List Bool) (told : Told) (released : Bool) : Type 0 where
  pub turned : (world after, told) ≡ turn (kind_with c before.table) t p (world before)
  pub groups : SameGroups before.table after.table
  pub at_work : IsAtWork c (t + 1) after.procs.items after.table after.mails after.links.items
  pub running_is : running ≡ running_of (processes_of after.procs.items)
  pub freed : AreFreed (processes_of after.procs.items)
  pub none_waits : released ≡ false → NoneWaits after.procs.items

-- so it is told and released, of whatever turn that has come to these parts
abbrev pub Finishes : {L : Type 0} → ℕ → Parts L → List Bool → List Event → Came → Parts L → List Bool → Told → Bool → Type 0
Finishes {L} p now running events came after running' told released =
    (c : Code) (t : ℕ) (before : Parts L) → HasCome c t p before now running events came → IsTurned c t p before after running' told released

-- there is such a turn
pub record SomeTurnCame {L : Type 0} (p : ℕ) (now : Parts L) (running : List Bool) (events : List Event) (came : Came) : Type 0 where
  pub code : Code
  pub turn : ℕ
  pub before : Parts L
  pub come : HasCome code turn p before now running events came

-- The end of a turn that is under way: it is over, and for its ticks pay the words that are still to be named, what goes back, and the
-- processes that release lines.
pub record HasEnded {L : Type 0} (c : Code) (t p : ℕ) (before now : Parts L) (m : Move) (after : Parts L) (running : List Bool) (told : Told)
    (released : Bool) (steps steps' : ℕ) : Type 0 where
  pub turned : IsTurned c t p before after running told released
  pub work : steps'
      ≤ steps + 3 * named_yet c (memberships before.table) p (world now) m
      + undoing (move (kind_with c before.table) t p (world before)).kind (processes_of before.procs.items)
      (move (kind_with c before.table) t p (world before)).rejections (move (kind_with c before.table) t p (world before)).world.processes
      + 2 * releasing (lines_of after.procs.items)

abbrev pub Ends : {L : Type 0} → Code → ℕ → ℕ → Parts L → List Bool → Move → Parts L → List Bool → Told → Bool → ℕ → ℕ → Type 0
Ends {L} c t p now running m after running' told released steps steps' =
    (before : Parts L) → IsUnderWay c t p before now running m → HasEnded c t p before now m after running' told released steps steps'

pub record SomeTurnIsUnderWay {L : Type 0} (c : Code) (t p : ℕ) (now : Parts L) (running : List Bool) (m : Move) : Type 0 where
  pub before : Parts L
  pub way : IsUnderWay c t p before now running m
