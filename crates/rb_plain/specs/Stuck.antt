-- Which turn of a record can't be taken, and why.
use Rattle.std.specs.Prelude.{◌≡◌, ℕ, nat_eq, Bool, true, false, cond, List, [], ◌∷◌, slice_get, Option, Some, None, Result, Ok, Err}
use Rattle.rb_base.specs.declared.kept.Kept.{Kept}
use Rattle.rb_base.specs.declared.text.Memory.{Memory}
use Rattle.rb_syntax.specs.Tree.{Tree}
use Rattle.rb_world.specs.Turn.{Told}
use Rattle.rb_world.specs.Plain.{plain_turn}
use Rattle.rb_meaning.specs.PlainRun.{PlainWorld}
use Rattle.rb_levels.specs.declared.cause.StuckCause.{StuckCause}
use Rattle.rb_levels.specs.declared.cause.StuckCause.TheVariants as causes
use Rattle.rb_plain.specs.declared.stuck.StuckTurn.{StuckTurn}
use Rattle.rb_levels.specs.Moves.{PlainProcess}
use Rattle.rb_levels.specs.Causes.{cause_of_process}
use Rattle.rb_plain.specs.Played.{played, stuck_in, unkept_opening}
use Rattle.rb_record.specs.Recorded.{AreKept}
use Rattle.rb_levels.specs.Worlds.{unkept_kind}

-- why the turn of a process that may not exist can't be taken
abbrev pub cause_there : Tree → Kept → PlainWorld → Option PlainProcess → StuckCause
cause_there tree kept w None = causes.Ended
cause_there tree kept w (Some q) = cause_of_process tree kept q w q.status

-- why a kept turn can't be taken in a world, where it can't
abbrev pub turn_cause : Tree → Kept → PlainWorld → StuckCause
turn_cause tree kept w = cause_there tree kept w (slice_get w.processes kept.process)

-- what is found behind a turn; nothing where that one is stuck
abbrev pub behind : {A : Type 0} → Option (PlainWorld × Told) → (PlainWorld → Option A) → Option A
behind None others = None
behind (Some (w, told)) others = others w

-- A turn was taken, with the lines that it released, to a new world; or it is stuck. Want of memory says nothing.
abbrev pub Advances : Option (PlainWorld × Told) → PlainWorld → Result Bool Memory → Type 0
Advances next new (Ok true) = (one : Told) × (next ≡ Some (new, one))
Advances next new (Ok false) = next ≡ None
Advances next new (Err memory) = Unit {0}

-- the turn of this number among those that are taken from a world, with its cause
abbrev pub stuck_among : Tree → ℕ → List Kept → PlainWorld → Option StuckTurn
stuck_among tree turn [] w = None
stuck_among tree turn (kept ∷ others) w =
    cond (nat_eq kept.turn turn) (Some (record { kept = kept; cause = turn_cause tree kept w }))
    (behind (plain_turn (unkept_kind tree) kept w) (stuck_among tree turn others))

-- why the turn of this number of a record can't be taken; nothing where there is none, or the run is stuck before it
abbrev pub stuck_turn : Tree → ℕ → List Kept → Option StuckTurn
stuck_turn tree turn turns = stuck_among tree turn turns (unkept_opening tree)

-- a turn that can't be taken in some world, with its cause there
pub record IsStuck (tree : Tree) (turn : ℕ) (found : StuckTurn) : Type 0 where
  pub world : PlainWorld
  pub number : found.kept.turn ≡ turn
  pub stuck : plain_turn (unkept_kind tree) found.kept world ≡ None
  pub cause : found.cause ≡ turn_cause tree found.kept world

-- where a plain run of turns that rise is stuck, the turn and its cause are found, and it is that turn which can't be taken
abbrev pub StuckTurnsAreFound : Type 0
StuckTurnsAreFound =
    (tree : Tree) (turns : List Kept) (processes turn : ℕ) → AreKept processes 0 turns → stuck_in (played tree turns (unkept_opening tree)) ≡ Some turn →
    (found : StuckTurn) × (stuck_turn tree turn turns ≡ Some found) × IsStuck tree turn found
