-- What a machine is read by: how its processes stand, their variables, how many values were sent and taken on each channel, and the released
-- lines that wait.
use Rattle.std.specs.Prelude.{◌≡◌, ◌<◌, ◌^◌, cond, ℕ, ℤ, List, length, map, Option, None}
use Rattle.rb_base.specs.Lines.{without_next}
use Rattle.rb_base.specs.declared.event.State.{State}
use Rattle.rb_trace.specs.Ended.{state_of}
use Rattle.rb_world.specs.Standing.{Each}
use Rattle.rb_world.specs.World.{Process, last_of}
use Rattle.rb_code.specs.WordMachine.Workspace.{part_of}
use Rattle.rb_code.specs.Instructions.Plain.{Code}
use Rattle.rb_code.specs.SoundCode.Stands.{IsAmong}
use Rattle.rb_code.specs.WordMachine.Turn.{Copy, Standing}
use Rattle.rb_code.specs.SoundCode.WellFormed.{JoinsTwo}
use Rattle.rb_code.specs.WordMachine.WordRun.{counts_sent, counts_taken, variable_words}
use Rattle.rb_proc.specs.Process.{Seen}
use Rattle.rb_recovery.specs.Channels.{AreNumbered, conversation_in}
use Rattle.rb_recovery.specs.Known.{CursorsBelow}
use Rattle.rb_recovery.specs.Worlds.{lines_of, processes_of}
use Rattle.rb_recovery.specs.declared.parts.Parts.{Parts}

abbrev pub states_of : List (Process Standing Copy) → List State
states_of processes = map (λ (q : Process Standing Copy). state_of (q.status, length q.levels)) processes

abbrev pub variables_of : Code → List (Process Standing Copy) → List (List ℤ)
variables_of c processes = map (λ (q : Process Standing Copy). variable_words c q.state) processes

abbrev pub sent_of : Code → List (Process Standing Copy) → List ℕ
sent_of c processes = counts_sent c (map (λ (q : Process Standing Copy). q.state) processes) 0 c.channels

abbrev pub taken_of : Code → List (Process Standing Copy) → List ℕ
taken_of c processes = counts_taken c (map (λ (q : Process Standing Copy). q.state) processes) 0 c.channels

-- the conversation at whose test line a process stands, if it stands at one
abbrev pub line_stood_at : Process Standing Copy → Option ℕ
line_stood_at q = cond q.at_line (conversation_in (last_of q.levels)) None

-- Processes of this code by number, and channels between them; and no cursor is too great for a signed number.
pub record AreCounted (c : Code) (procs : List Seen) : Type 0 where
  pub numbered : AreNumbered c procs
  pub ends : Each (λ _ ends. JoinsTwo c ends) c.channels
  pub cursors : Each (λ p (one : Seen). CursorsBelow c p (2 ^ 63) one.process.state.words) procs

-- a process is an end of a channel, with a cursor for it
pub record HasEnd (c : Code) (procs : List Seen) (channel p : ℕ) : Type 0 where
  pub there : p < length procs
  pub among : IsAmong channel (part_of c p).channels

-- The next line of process number p no longer waits, and all else is as before.
pub record HasLent {L : Type 0} (p : ℕ) (old new : Parts L) : Type 0 where
  pub lines : lines_of new.procs.items ≡ without_next (lines_of old.procs.items) p
  pub processes : processes_of new.procs.items ≡ processes_of old.procs.items
  pub mails : new.mails ≡ old.mails
  pub table : new.table ≡ old.table
  pub links : new.links ≡ old.links
