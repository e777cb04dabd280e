-- How the end of a command writes, where its last text is still to be judged, and where it is not.
use Rattle.std.specs.Prelude.{◌≡◌, ◌⊎◌, ℕ, List, [], ◌∷◌, Option, Result, Ok, Err}
use Rattle.rb_base.specs.declared.kept.Kept.{Kept}
use Rattle.rb_base.specs.declared.names.Names.{Names}
use Rattle.rb_syntax.specs.Tree.{Tree}
use Rattle.rb_outside.specs.Outside.{Faults, WrotePart}
use Rattle.rb_plain.specs.declared.stuck.StuckTurn.{StuckTurn}
use Rattle.rb_record.specs.Record.{record_of}
use Rattle.rb_hall.specs.declared.fault.Fault.{Fault}
use Rattle.rb_hall.specs.declared.fault.Fault.TheVariants as of
use Rattle.rb_hall.specs.declared.command.Unwritten.{Unwritten}
use Rattle.rb_hall.specs.declared.command.Unwritten.TheVariants as unwritten
use Rattle.rb_hall.specs.Ends.{WriteEnds}
use Rattle.rb_hall.specs.Judgement.{Judgement}
use Rattle.rb_run.specs.declared.surviving.Ended.{Ended}
use Rattle.rb_run.specs.declared.surviving.Ended.TheVariants as ended
use Rattle.rb_back.specs.declared.showing.Stopped.{Stopped}
use Rattle.rb_back.specs.declared.showing.Stopped.TheVariants as stopped
use Rattle.rb_turns.specs.Written.{PutsOrMemory}
use Rattle.rb_verdict.specs.Judging.{OverTurns, PlainGoesOn, SessionGoesOn}
use Rattle.rb_verdict.specs.Texts.{names_of}
use Rattle.rb_commands.specs.Explained.{IsStuckAt, NamesOfSource}
use Rattle.rb_commands.specs.declared.why.Why.{Why}
use Rattle.rb_commands.specs.declared.why.Why.TheVariants as why

-- How a call ends that writes a text and takes memory while it writes: where memory was wanting, nothing was written, or a prefix of the text.
abbrev pub PutsFrontOrMemory : List ℕ → Option (List ℕ) → Option (List ℕ) → Faults → Faults → Result (Unit {0}) (Unwritten Why) → Type 0
PutsFrontOrMemory text old new before after (Ok done) = PutsOrMemory {W = Why} text old new before after (Ok done)
PutsFrontOrMemory text old new before after (Err (unwritten.Refused fault known)) = ⊥
PutsFrontOrMemory text old new before after (Err unwritten.Fault) = PutsOrMemory {W = Why} text old new before after (Err unwritten.Fault)
PutsFrontOrMemory text old new before after (Err unwritten.Memory) =
    ((new ≡ old) × (after ≡ before)) ⊎ (WrotePart old new text × (after.count ≡ before.count))

-- the names of a program are known, of which this is so
abbrev pub KnowsNames : (Names → Type 0) → Fault → Why → Type 0
KnowsNames so fault known = (names : Names) × (known ≡ why.Names names) × so names

-- A schedule is judged for processes of these names; it is refused, or the text of its turns is written. Of a refusal names are known, of which
-- this is so.
abbrev pub EndsOverTurns : List (List ℕ) → (List ℕ → List ℕ) → (Names → Type 0) → List ℕ → Option (List ℕ) → Option (List ℕ) → Faults → Faults
    → Result (Unit {0}) (Unwritten Why) → Type 0
EndsOverTurns names text_of so schedule = WriteEnds (OverTurns names text_of (schedule ∷ [])) (KnowsNames so) ⊥

-- the same for the tree of a source, by what is made of the turns, and by which names the source has
abbrev pub EndsOverSchedule : (List ℕ → List ℕ) → (List ℕ → Names → Type 0) → List ℕ → Tree → List ℕ → Option (List ℕ) → Option (List ℕ)
    → Faults → Faults → Result (Unit {0}) (Unwritten Why) → Type 0
EndsOverSchedule text_of NamesOf source tree schedule = EndsOverTurns (names_of tree) text_of (NamesOf source) schedule

-- a judgement of texts that were made: of a refusal nothing more is known
abbrev pub EndsPlainly : (Judgement → Type 0) → Option (List ℕ) → Option (List ℕ) → Faults → Faults → Result (Unit {0}) (Unwritten Why) → Type 0
EndsPlainly judged = WriteEnds judged (λ fault known. known ≡ why.Plain) ⊥

-- A session is judged over turns of a source; it is refused, or what it shows is written.
abbrev pub EndsSession : List ℕ → Tree → List ℕ → List ℕ → Option (List ℕ) → Option (List ℕ) → Faults → Faults
    → Result (Unit {0}) (Unwritten Why) → Type 0
EndsSession source tree schedule session = WriteEnds (SessionGoesOn tree (schedule ∷ session ∷ [])) (KnowsNames (NamesOfSource source)) (Unit {0})

-- a fault says at which turn the plain run of these kept turns is stuck, and what is known of it says so
abbrev pub KnowsStuck : Tree → List Kept → Fault → Why → Type 0
KnowsStuck tree turns fault known =
    (turn : ℕ) × (found : StuckTurn) × (names : Names) × (fault ≡ of.Stuck turn) × (known ≡ why.Stuck found names)
    × IsStuckAt tree turns turn found names

-- the kept turns of a record are played over a tree
abbrev pub EndsPlain : Tree → List Kept → Option (List ℕ) → Option (List ℕ) → Faults → Faults → Result (Unit {0}) (Unwritten Why) → Type 0
EndsPlain tree turns old new before after result =
    (kept : List ℕ) → record_of (names_of tree) kept ≡ Ok turns
    → WriteEnds (PlainGoesOn tree (kept ∷ [])) (KnowsStuck tree turns) (Unit {0}) old new before after result

-- they are stuck at this turn, or memory was wanting to say why
abbrev pub EndsForStuck : Tree → List Kept → ℕ → Unwritten Why → Type 0
EndsForStuck tree turns turn (unwritten.Refused fault known) = (fault ≡ of.Stuck turn) × KnowsStuck tree turns fault known
EndsForStuck tree turns turn unwritten.Fault = ⊥
EndsForStuck tree turns turn unwritten.Memory = Unit {0}

-- how a command ends after the survivors of a run
abbrev pub unwritten_of_survival : Result (Unit {0}) Ended → Result (Unit {0}) (Unwritten Why)
unwritten_of_survival (Ok done) = Ok done
unwritten_of_survival (Err ended.WriteFault) = Err unwritten.Fault
unwritten_of_survival (Err ended.Memory) = Err unwritten.Memory

-- and after a session was followed
abbrev pub unwritten_of_following : Result (Unit {0}) Stopped → Result (Unit {0}) (Unwritten Why)
unwritten_of_following (Ok done) = Ok done
unwritten_of_following (Err stopped.WriteFault) = Err unwritten.Fault
unwritten_of_following (Err stopped.Memory) = Err unwritten.Memory
