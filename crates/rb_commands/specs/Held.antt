-- What each command holds of the texts that it has judged.
use Rattle.std.specs.Prelude.{◌≡◌, ℕ, ◌≤◌, List, [], ◌∷◌, length, vec_len, Ok, Err, Result}
use Rattle.rb_base.specs.Naming.{process_names}
use Rattle.rb_base.specs.declared.limits.TheConstants.{MOST_BYTES}
use Rattle.rb_syntax.specs.Plain.{tree}
use Rattle.rb_judge.specs.Verdict.{IsAccepted}
use Rattle.rb_judge.specs.Judged.{IsJudged}
use Rattle.rb_syntax.specs.Tree.{Tree}
use Rattle.rb_prepare.specs.Prepared.{IsPrepared}
use Rattle.rb_domino.specs.History.{history_of}
use Rattle.rb_record.specs.Record.{record_of}
use Rattle.rb_record.specs.Recorded.{AreKept}
use Rattle.rb_sched.specs.Schedule.{schedule_of}
use Rattle.rb_hall.specs.declared.command.Stop.{Stop}
use Rattle.rb_hall.specs.declared.command.Stop.TheVariants as stop
use Rattle.rb_hall.specs.Ends.{IfRefused, Refuses}
use Rattle.rb_hall.specs.Judgement.{ReadsOn}
use Rattle.rb_verdict.specs.Judging.{Judges}
use Rattle.rb_verdict.specs.Programs.{MayRun, Program}
use Rattle.rb_verdict.specs.Texts.{ImageHolds, ImageRefused, SourceRefused, names_of}
use Rattle.rb_verdict.specs.Words.{Session}
use Rattle.rb_commands.specs.Explained.{ExplainsProgram, NamesOfSource}
use Rattle.rb_commands.specs.declared.check.Checked.{Checked}
use Rattle.rb_commands.specs.declared.check.Checked.TheVariants as checked
use Rattle.rb_commands.specs.declared.domino.Told.{Told}
use Rattle.rb_commands.specs.declared.domino.Told.TheVariants as told
use Rattle.rb_commands.specs.declared.image.Unfit.{Unfit}
use Rattle.rb_commands.specs.declared.image.Unfit.TheVariants as unfit
use Rattle.rb_commands.specs.declared.load.Loaded.{Loaded}
use Rattle.rb_commands.specs.declared.load.Loaded.TheVariants as loaded
use Rattle.rb_commands.specs.declared.over_schedule.Scheduled.{Scheduled}
use Rattle.rb_commands.specs.declared.over_schedule.Scheduled.TheVariants as scheduled
use Rattle.rb_commands.specs.declared.plain.Played.{Played}
use Rattle.rb_commands.specs.declared.plain.Played.TheVariants as played
use Rattle.rb_commands.specs.declared.session.Shown.{Shown}
use Rattle.rb_commands.specs.declared.session.Shown.TheVariants as shown
use Rattle.rb_commands.specs.declared.source.Compiled.{Compiled}
use Rattle.rb_commands.specs.declared.source.Compiled.TheVariants as compiled
use Rattle.rb_commands.specs.declared.trial.NoText.{NoText}
use Rattle.rb_commands.specs.declared.why.Why.{Why}
use Rattle.rb_commands.specs.declared.why.Why.TheVariants as why

-- a source is refused for its fault, and nothing more is known of it; or memory was wanting
abbrev pub IsStopFor : List ℕ → Stop Why → Type 0
IsStopFor source (stop.Refused fault known) = SourceRefused source fault × (known ≡ why.Plain)
IsStopFor source stop.Memory = Unit {0}

-- the same where a source was not taken
abbrev pub StopsForSource : {T : Type 0} → List ℕ → Result T (Stop Why) → Type 0
StopsForSource source result = IfRefused result (λ fault known. SourceRefused source fault × (known ≡ why.Plain))

-- and where an image was not
abbrev pub StopsForImage : {T : Type 0} → List ℕ → Result T (Stop Why) → Type 0
StopsForImage image result = IfRefused result (λ fault known. ImageRefused image fault × (known ≡ why.Plain))

-- what is known of a program that is not run: it may not be run, or memory was wanting
abbrev pub IsUnfit : Program → Unfit → Type 0
IsUnfit program unfit.Unsound = MayRun program → ⊥
IsUnfit program unfit.Memory = Unit {0}

-- no text
abbrev pub HoldsNoText : List (List ℕ) → NoText → Type 0
HoldsNoText texts held = texts ≡ []

-- `check`: that the source is accepted
abbrev pub HoldsChecked : List (List ℕ) → Checked → Type 0
HoldsChecked texts checked.Nothing = texts ≡ []
HoldsChecked texts checked.Accepted = (source : List ℕ) × (texts ≡ source ∷ []) × ((meant : Tree) × IsAccepted source meant)

-- `code` and `compile`: the program
abbrev pub HoldsCompiled : List (List ℕ) → Compiled → Type 0
HoldsCompiled texts compiled.Nothing = texts ≡ []
HoldsCompiled texts (compiled.Program prepared) =
    (source : List ℕ) × (texts ≡ source ∷ []) × IsPrepared source prepared × (length source ≤ MOST_BYTES)

-- `domino`: the history
abbrev pub HoldsHistory : List (List ℕ) → Told → Type 0
HoldsHistory texts told.Nothing = texts ≡ []
HoldsHistory texts (told.Story history) = (text : List ℕ) × (texts ≡ text ∷ []) × (history_of text ≡ Ok history)

-- `run`, `survive` and `stuck`: the program, and then the schedule as it was read
abbrev pub HoldsScheduled : List (List ℕ) → Scheduled → Type 0
HoldsScheduled texts scheduled.Nothing = texts ≡ []
HoldsScheduled texts (scheduled.Program prepared) = (source : List ℕ) × (texts ≡ source ∷ []) × IsPrepared source prepared
HoldsScheduled texts (scheduled.Both prepared schedule) =
    (source : List ℕ) × (texts ≡ source ∷ schedule.now ∷ []) × IsPrepared source prepared × (length schedule.now ≤ MOST_BYTES)

-- `load`: the program, and then the schedule as it was read
abbrev pub HoldsLoaded : List (List ℕ) → Loaded → Type 0
HoldsLoaded texts loaded.Nothing = texts ≡ []
HoldsLoaded texts (loaded.Program program) = (image : List ℕ) × (texts ≡ image ∷ []) × ImageHolds image program
HoldsLoaded texts (loaded.Both program schedule) =
    (image : List ℕ) × (texts ≡ image ∷ schedule.now ∷ []) × ImageHolds image program × (length schedule.now ≤ MOST_BYTES)

-- `plain`: the source, and then the kept turns of the record
abbrev pub HoldsRecord : List (List ℕ) → Played → Type 0
HoldsRecord texts played.Nothing = texts ≡ []
HoldsRecord texts (played.Source judged) = (source : List ℕ) × (texts ≡ source ∷ []) × IsJudged source judged
HoldsRecord texts (played.Both judged turns) =
    (source : List ℕ) × (kept : List ℕ) × (texts ≡ source ∷ kept ∷ []) × IsJudged source judged
    × (record_of (names_of (tree judged.checked.program)) kept ≡ Ok turns) × AreKept (vec_len judged.names.processes) 0 turns

-- the schedule lists so many turns of a program with these names
abbrev pub HasTurns : List (List ℕ) → List ℕ → ℕ → Type 0
HasTurns names schedule turns = (all : List ℕ) × (schedule_of names schedule ≡ Ok all) × (turns ≡ length all)

-- `session`: the program, then the schedule with how many turns it has, and then the session as it was read
abbrev pub HoldsSession : List (List ℕ) → Shown → Type 0
HoldsSession texts shown.Nothing = texts ≡ []
HoldsSession texts (shown.Program prepared) = (source : List ℕ) × (texts ≡ source ∷ []) × IsPrepared source prepared
HoldsSession texts (shown.Turns prepared schedule turns) =
    (source : List ℕ) × (texts ≡ source ∷ schedule.now ∷ []) × IsPrepared source prepared
    × HasTurns (process_names prepared.code.names) schedule.now turns
HoldsSession texts (shown.All prepared schedule turns session) =
    (source : List ℕ) × (texts ≡ source ∷ schedule.now ∷ session.now ∷ []) × IsPrepared source prepared
    × HasTurns (process_names prepared.code.names) schedule.now turns × (length session.now ≤ MOST_BYTES)

-- the schedule of a source was taken, and then the session is wanted; or it is refused, and the names of the source are known
abbrev pub TakesTurns : List ℕ → List ℕ → Result Shown (Stop Why) → Type 0
TakesTurns source schedule (Ok next) = HoldsSession (source ∷ schedule ∷ []) next × Judges Session (source ∷ schedule ∷ []) ReadsOn
TakesTurns source schedule (Err (stop.Refused fault known)) =
    Refuses (Judges Session) (ExplainsProgram NamesOfSource) (source ∷ schedule ∷ []) fault known
TakesTurns source schedule (Err stop.Memory) = ⊥
