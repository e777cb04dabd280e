-- What all instructions up to an end ask and leave.
use Rattle.std.specs.Prelude.{◌≡◌, ℕ, ◌+◌, ◌-◌, ◌<◌, ◌^◌, ℤ, Bool, cond, List, slice_get}
use Rattle.rb_meaning.specs.Environment.{natural}
use Rattle.rb_world.specs.Slots.{Slots}
use Rattle.rb_world.specs.World.{ProcessStatus, Finished, Running, status_at}
use Rattle.rb_code.specs.Instructions.Plain.{Code}
use Rattle.rb_code.specs.WordMachine.Workspace.{cursor_place, part_of, word_at}
use Rattle.rb_code.specs.WordMachine.Turn.{wants_there}
use Rattle.rb_code.specs.SoundCode.Stands.{IsAmong}
use Rattle.rb_recoverable.specs.Contents.{Contents}
use Rattle.rb_operands.specs.declared.next.Ended.{Ended}
use Rattle.rb_operands.specs.declared.next.Ended.TheVariants as ended

-- the cursors of a process can rise
abbrev pub CursorsRise : Code → ℕ → List ℤ → Type 0
CursorsRise c p words =
    (channel : ℕ) → IsAmong channel (part_of c p).channels → natural (word_at words (cursor_place (part_of c p) channel)) < 2 ^ 32 - 1

-- levels and released lines stay, and all stays unless the turn is over
abbrev pub KeepsEnded : Ended → Contents → Contents → Slots → Slots → Type 0
KeepsEnded (ended.Stop a done) old new before after = (new.levels ≡ old.levels) × (new.waiting ≡ old.waiting)
KeepsEnded answer old new before after = (new ≡ old) × (after ≡ before)

-- how a process stands where a turn is over
abbrev pub done_or_running : Bool → ProcessStatus
done_or_running done = cond done Finished Running

-- it is told whether the process is done there
abbrev pub TellsDone : Code → Ended → Type 0
TellsDone c (ended.Stop a done) = status_at (wants_there c (slice_get c.instrs a) (slice_get c.instrs (a + 1))) ≡ done_or_running done
TellsDone c answer = Unit {0}
