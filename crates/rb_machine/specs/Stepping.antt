-- What a step of a process asks for and leaves.
use Rattle.std.specs.Prelude.{◌≡◌, ℕ, ◌<◌, ℤ, true, false, List, [], ◌∷◌, ◌++◌, length, Option, Some, None}
use Rattle.rb_base.specs.declared.event.Event.{Event}
use Rattle.rb_base.specs.declared.event.TurnKind.TheVariants.{Took}
use Rattle.rb_cache.specs.Copies.{accepted}
use Rattle.rb_world.specs.Kind.{Membership}
use Rattle.rb_world.specs.Slots.{Slots}
use Rattle.rb_world.specs.Turn.{Moved, leaves, stands_now}
use Rattle.rb_world.specs.World.{Level, Process, Running, change_at, settled, without_last}
use Rattle.rb_code.specs.Instructions.Plain.{Code}
use Rattle.rb_code.specs.SoundCode.Stands.{Serves, SettlesSoundly, StandsSoundly}
use Rattle.rb_code.specs.WordMachine.Turn.{Common, Copy, Standing, want}
use Rattle.rb_conv.specs.Conversations.{Conversation}
use Rattle.rb_proc.specs.Process.{Seen, StepsTo, alternate_for, kind_of, step_of}
use Rattle.rb_proc.specs.Runs.{CursorsRise}
use Rattle.rb_recoverable.specs.Views.{IsViewOf}
use Rattle.rb_recoverable.specs.declared.level_view.LevelView.{LevelView}
use Rattle.rb_proc.specs.declared.answers.Outcome.{Outcome}
use Rattle.rb_proc.specs.declared.answers.Outcome.TheVariants as outcome
use Rattle.rb_machine.specs.Telling.{GoesOn}
use Rattle.rb_recovery.specs.Worlds.{world_of}
use Rattle.rb_recovery.specs.declared.links.Link.{Link}
use Rattle.rb_machine.specs.declared.moves.Move.{Move}
use Rattle.rb_machine.specs.declared.moves.Move.TheVariants as did

-- all that a step of a process asks for
pub record MayStep (c : Code) (message : Option ℤ) (one : Seen) : Type 0 where
  pub running : one.process.status ≡ Running
  pub away : one.process.at_line ≡ false
  pub none_waits : one.waiting ≡ []
  pub stands : (groups : List Membership) × StandsSoundly c groups one.process.state one.process.levels
  pub serves : Serves (want c one.process.state) (alternate_for (want c one.process.state) one.process.levels) message one.process.levels
  pub cursors : CursorsRise c one.process.state.process one.process.state.words

-- a process of which a turn was kept
abbrev pub turn_kept : ℕ → Seen → Seen
turn_kept turn one = record one { process = record one.process { state = record one.process.state { last_kept = turn } } }

-- a process has taken a step that did not trap, and its turn was kept
pub record HasKept (c : Code) (turn : ℕ) (message : Option ℤ) (one : Seen) (answer : Outcome) (slots slots' : Slots) (one' : Seen) : Type 0 where
  pub later : Process Standing Copy
  pub comes : StepsTo c one.process slots (step_of c one.process slots message) answer later slots'
  pub kept : one' ≡ turn_kept turn (record { process = later; waiting = [] })

-- What a process has done in a step: it went on, with nothing to tell or with something, or its test held; or it is to be rejected.
abbrev pub HasDone : Code → ℕ → Option ℤ → Seen → Move → Slots → Slots → Seen → Type 0
HasDone c turn message one did.Went slots slots' one' = HasKept c turn message one outcome.Went slots slots' one' × GoesOn one'
HasDone c turn message one did.Tells slots slots' one' = HasKept c turn message one outcome.Went slots slots' one'
HasDone c turn message one did.Accepts slots slots' one' = HasKept c turn message one outcome.Accepts slots slots' one'
HasDone c turn message one (did.Rejects left cause) slots slots' one' =
    StepsTo c one.process slots (step_of c one.process slots message) (outcome.Trap cause) one'.process slots' × (one'.waiting ≡ [])
    × (left ≡ length one'.process.levels)
HasDone c turn message one did.Rests slots slots' one' = ⊥
HasDone c turn message one did.Waits slots slots' one' = ⊥
HasDone c turn message one (did.Enters b) slots slots' one' = ⊥

-- process number p has done so, and no other has changed
pub record HasDoneAt (c : Code) (turn : ℕ) (message : Option ℤ) (p : ℕ) (one : Seen) (m : Move) (slots slots' : Slots)
    (procs procs' : List Seen) : Type 0 where
  pub later : Seen
  pub does : HasDone c turn message one m slots slots' later
  pub processes : procs' ≡ change_at p (λ _. later) procs

-- the link of such a turn was added, unless it is undone
abbrev pub AddsLink : Move → Link → List Link → List Link → Type 0
AddsLink (did.Rejects left cause) link links links' = links' ≡ links
AddsLink did.Rests link links links' = links' ≡ links ++ link ∷ []
AddsLink did.Waits link links links' = links' ≡ links ++ link ∷ []
AddsLink did.Went link links links' = links' ≡ links ++ link ∷ []
AddsLink did.Tells link links links' = links' ≡ links ++ link ∷ []
AddsLink did.Accepts link links links' = links' ≡ links ++ link ∷ []
AddsLink (did.Enters b) link links links' = links' ≡ links ++ link ∷ []
