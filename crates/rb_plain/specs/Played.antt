-- Plain runs as memory plays them, with no turn noted: what is left of one, what it prints, and what the call that writes its text answers.
use Rattle.std.specs.Prelude.{◌≡◌, ◌⊎◌, ℕ, ℤ, List, [], length, map, Option, Some, None, Result, Ok, Err}
use Rattle.std.specs.List.{AllByRecursion, AllZip}
use Rattle.rb_base.specs.declared.names.ProcessNames.{ProcessNames}
use Rattle.rb_outside.specs.Outside.{Faults, WrotePart}
use Rattle.rb_outside.specs.Puts.{Puts}
use Rattle.rb_trace.specs.Fitting.{LiesWithin}
use Rattle.rb_syntax.specs.Tree.{Tree}
use Rattle.rb_world.specs.World.{World}
use Rattle.rb_world.specs.Turn.{opening}
use Rattle.rb_base.specs.declared.kept.Kept.{Kept}
use Rattle.rb_world.specs.Plain.{PlainEnd, Ended, StuckAt, plain_run}
use Rattle.rb_world.specs.Text.{Naming, outs_text}
use Rattle.rb_meaning.specs.Environment.{global_words}
use Rattle.rb_meaning.specs.State.{State}
use Rattle.rb_meaning.specs.Step.{Nothing}
use Rattle.rb_meaning.specs.Meaning.{opening_states, states_of}
use Rattle.rb_meaning.specs.PlainRun.{EntryPoint, PlainWorld, plain_text, plain_text_at}
use Rattle.rb_levels.specs.Worlds.{unkept_kind}
use Rattle.rb_levels.specs.declared.process.Process.{Process}
use Rattle.rb_levels.specs.declared.answer.PlainAnswer.{PlainAnswer}
use Rattle.rb_levels.specs.declared.answer.PlainAnswer.TheVariants.{Stuck, WriteFault, Memory}

-- the world in which a plain run begins
abbrev pub unkept_opening : Tree → PlainWorld
unkept_opening tree = opening (unkept_kind tree) (opening_states tree 0 tree.processes) tt

-- the plain run of these turns from a world
abbrev pub played : Tree → List Kept → PlainWorld → PlainEnd State EntryPoint Nothing
played tree turns w = plain_run (unkept_kind tree) turns w

-- a plain run in which no turn is noted has the text of one that notes them
abbrev pub UnnotedTurnsTellSame : Type 0
UnnotedTurnsTellSame = (tree : Tree) (turns : List Kept) → plain_text_at tree (played tree turns (unkept_opening tree)) ≡ plain_text tree turns

-- the turn at which it is stuck, if it is
abbrev pub stuck_in : {S C M : Type 0} → PlainEnd S C M → Option ℕ
stuck_in (Ended w lines) = None
stuck_in (StuckAt t) = Some t

-- the world in which it ends, if it does
abbrev pub world_in : {S C M : Type 0} → PlainEnd S C M → Option (World S C M)
world_in (Ended w lines) = Some w
world_in (StuckAt t) = None

-- the lines that it prints; none where it is stuck
abbrev pub outs_in : {S C M : Type 0} → Naming → PlainEnd S C M → List ℕ
outs_in names (Ended w lines) = outs_text names lines
outs_in names (StuckAt t) = []

-- All turns can be taken, or the run is stuck at one of them. Want of memory says nothing.
abbrev pub Rehearses : Option ℕ → Result (Unit {0}) PlainAnswer → Type 0
Rehearses stuck (Ok done) = stuck ≡ None
Rehearses stuck (Err (Stuck t)) = stuck ≡ Some t
Rehearses stuck (Err WriteFault) = ⊥
Rehearses stuck (Err Memory) = Unit {0}

-- All of a text was written; or a front of it, since a write failed, or since memory was wanting, and then no write failed.
abbrev pub Writes : List ℕ → Option (List ℕ) → Option (List ℕ) → Faults → Faults → Result (Unit {0}) PlainAnswer → Type 0
Writes text old new before after (Ok done) = Puts {T = Unit {0}} {E = PlainAnswer} text old new before after (Ok done)
Writes text old new before after (Err (Stuck t)) = ⊥
Writes text old new before after (Err WriteFault) = Puts {T = Unit {0}} {E = PlainAnswer} text old new before after (Err WriteFault)
Writes text old new before after (Err Memory) = WrotePart old new text × (after.count ≡ before.count)

-- What a plain run that should have this text, or be stuck at this turn, answers. A run that is stuck writes nothing. Where memory was
-- wanting, nothing was written, or a front of the text was and no write failed.
abbrev pub Plays : Result (List ℕ) ℕ → Option (List ℕ) → Option (List ℕ) → Faults → Faults → Result (Unit {0}) PlainAnswer → Type 0
Plays expected old new before after (Ok done) =
    (text : List ℕ) × (expected ≡ Ok text) × Puts {T = Unit {0}} {E = PlainAnswer} text old new before after (Ok done)
Plays expected old new before after (Err (Stuck t)) = (expected ≡ Err t) × (new ≡ old) × (after ≡ before)
Plays expected old new before after (Err WriteFault) =
    (text : List ℕ) × (expected ≡ Ok text) × Puts {T = Unit {0}} {E = PlainAnswer} text old new before after (Err WriteFault)
Plays expected old new before after (Err Memory) =
    ((new ≡ old) × (after ≡ before))
    ⊎ ((text : List ℕ) × (expected ≡ Ok text) × WrotePart old new text × (after.count ≡ before.count))

-- the words of the own variables of each process of a world
abbrev pub own_words : PlainWorld → List (List ℤ)
own_words w = map (λ s. global_words s.environment) (states_of w)

-- the same of processes in memory
abbrev pub words_of_all : List Process → List (List ℤ)
words_of_all processes = map (λ process. global_words process.state.environment) processes

-- the variables of a process that are printed lie within its words
abbrev pub VariablesLie : ProcessNames → List ℤ → Type 0
VariablesLie process words = AllByRecursion (LiesWithin (length words)) process.variables.items

-- so it is of each process
abbrev pub ProcessesLie : List ProcessNames → List (List ℤ) → Type 0
ProcessesLie processes words = AllZip VariablesLie processes words
