-- What each command makes of the texts that it has read, in their order: its one text, a refusal for a fault, or the wish for its next file.
use Rattle.std.specs.Prelude.{◌≡◌, ℕ, List, [], ◌∷◌, codes}
use Rattle.rb_syntax.specs.Tree.{Tree}
use Rattle.rb_meaning.specs.Meaning.{run_text}
use Rattle.rb_judge.specs.Verdict.{IsAccepted}
use Rattle.rb_code.specs.WordMachine.WordRun.{word_text}
use Rattle.rb_make.specs.Trial.{schedule_of as made_schedule, source_of}
use Rattle.rb_stuck.specs.Programs.{tree_standing_text}
use Rattle.rb_page.specs.Page.{page_text}
use Rattle.rb_picture.specs.Meant.{tree_trace_text}
use Rattle.rb_hall.specs.declared.fault.Fault.{Fault}
use Rattle.rb_hall.specs.Judgement.{Judgement, EndsBy, Judging, Limited, ReadsOn, RefusedWith, Writes}
use Rattle.rb_verdict.specs.Programs.{IsImageOf, ListsCodeOf, Program, names_in}
use Rattle.rb_verdict.specs.Summary.{summary_text}
use Rattle.rb_verdict.specs.Texts.{HistoryRefused, HistoryTells, ImageHolds, ImageRefused, ListsTurns, RecordPlays, RecordRefused, ScheduleRefused, ScheduleRuns, SessionRefused, SessionShows, SourceRefused, names_of, survivors_text}
use Rattle.rb_verdict.specs.Words.{Command, Run, Survive, Replay, Check, ListCode, Trial, Session, Analyse, Survey, Compile, Load, Trace, Page, Explain, Usage, Request}

-- A command that looks at one file first: it reads it, and where that file is refused, so is the command; what it makes of what an
-- accepted one holds, and of the texts after it, is its own.
pub data JudgesFirst {X : Type 0} (Refused : List ℕ → Fault → Type 0) (Holds : List ℕ → X → Type 0)
    (goes_on : X → List (List ℕ) → Judgement → Type 0) : List (List ℕ) → Judgement → Type 0 where
  at_first : JudgesFirst Refused Holds goes_on [] ReadsOn
  first_refused : (first : List ℕ) (fault : Fault) → Refused first fault → JudgesFirst Refused Holds goes_on (first ∷ []) (RefusedWith fault)
  first_accepted : (first : List ℕ) (held : X) (more : List (List ℕ)) (judgement : Judgement) → Holds first held
      → goes_on held more judgement → JudgesFirst Refused Holds goes_on (first ∷ more) judgement

-- one that looks at a source first
abbrev pub JudgesSource : (Tree → List (List ℕ) → Judgement → Type 0) → List (List ℕ) → Judgement → Type 0
JudgesSource goes_on = JudgesFirst SourceRefused IsAccepted goes_on

-- A command over a schedule for processes of these names: it is read, and then it is refused, or the command has its text of the turns.
pub data OverTurns (names : List (List ℕ)) (text_of : List ℕ → List ℕ) : List (List ℕ) → Judgement → Type 0 where
  reads_schedule : OverTurns names text_of [] ReadsOn
  schedule_refused : (schedule : List ℕ) (fault : Fault) → ScheduleRefused names schedule fault → OverTurns names text_of (schedule ∷ []) (RefusedWith fault)
  runs : (schedule text : List ℕ) → ScheduleRuns names text_of schedule text → OverTurns names text_of (schedule ∷ []) (Writes text)

-- the same with the tree of an accepted source
abbrev pub OverSchedule : (Tree → List ℕ → List ℕ) → Tree → List (List ℕ) → Judgement → Type 0
OverSchedule text_of tree = OverTurns (names_of tree) (text_of tree)

-- `plain`, with an accepted source: the record is read, and then it is refused, or its plain run has a text
pub data PlainGoesOn (tree : Tree) : List (List ℕ) → Judgement → Type 0 where
  reads_record : PlainGoesOn tree [] ReadsOn
  record_refused : (kept : List ℕ) (fault : Fault) → RecordRefused tree kept fault → PlainGoesOn tree (kept ∷ []) (RefusedWith fault)
  plays : (kept text : List ℕ) → RecordPlays tree kept text → PlainGoesOn tree (kept ∷ []) (Writes text)

-- `session`, with an accepted source: the schedule is read, and then it is refused, or the session is read, and is refused, or shows its text
pub data SessionGoesOn (tree : Tree) : List (List ℕ) → Judgement → Type 0 where
  reads_turns : SessionGoesOn tree [] ReadsOn
  turns_refused : (schedule : List ℕ) (fault : Fault) → ScheduleRefused (names_of tree) schedule fault → SessionGoesOn tree (schedule ∷ []) (RefusedWith fault)
  reads_session : (schedule turns : List ℕ) → ListsTurns tree schedule turns → SessionGoesOn tree (schedule ∷ []) ReadsOn
  session_refused : (schedule turns session : List ℕ) (fault : Fault) → ListsTurns tree schedule turns → SessionRefused tree turns session fault
      → SessionGoesOn tree (schedule ∷ session ∷ []) (RefusedWith fault)
  shows : (schedule turns session text : List ℕ) → ListsTurns tree schedule turns → SessionShows tree turns session text
      → SessionGoesOn tree (schedule ∷ session ∷ []) (Writes text)

-- the line for a source that is accepted
abbrev pub accepted_line : List ℕ
accepted_line = codes "accepted\n"

-- `check`, with an accepted source: it says so
pub data CheckGoesOn (tree : Tree) : List (List ℕ) → Judgement → Type 0 where
  accepts : CheckGoesOn tree [] (Writes accepted_line)

-- `code`, with an accepted source: it lists its code
pub data CodeGoesOn (tree : Tree) : List (List ℕ) → Judgement → Type 0 where
  lists : (text : List ℕ) → ListsCodeOf tree text → CodeGoesOn tree [] (Writes text)

-- `compile`, with an accepted source: it writes its image
pub data CompileGoesOn (tree : Tree) : List (List ℕ) → Judgement → Type 0 where
  compiles : (text : List ℕ) → IsImageOf tree text → CompileGoesOn tree [] (Writes text)

-- `load`, with an accepted image: the schedule is read, and then it is refused, or the word machine's run has a text
abbrev pub LoadGoesOn : Program → List (List ℕ) → Judgement → Type 0
LoadGoesOn program = OverTurns (names_in program) (word_text program.code program.groups)

-- `domino`: it reads a history, and is refused with it, or has its text
pub data JudgesHistory : List (List ℕ) → Judgement → Type 0 where
  reads_history : JudgesHistory [] ReadsOn
  history_refused : (text : List ℕ) (fault : Fault) → HistoryRefused text fault → JudgesHistory (text ∷ []) (RefusedWith fault)
  history_told : (text written : List ℕ) → HistoryTells text written → JudgesHistory (text ∷ []) (Writes written)

-- what a page makes of a judgement of the texts behind it: in place of a trace, the page with source, schedule and trace at its marks
abbrev pub in_page : List ℕ → List (List ℕ) → Judgement → Judgement
in_page page texts ReadsOn = ReadsOn
in_page page texts (RefusedWith fault) = RefusedWith fault
in_page page [] (Writes trace) = Writes trace
in_page page (source ∷ []) (Writes trace) = Writes trace
in_page page (source ∷ schedule ∷ more) (Writes trace) = Writes (page_text page source schedule trace)

-- `page`: it reads a page, and then goes on as `trace` does
pub data JudgesPage : List (List ℕ) → Judgement → Type 0 where
  reads_page : JudgesPage [] ReadsOn
  behind_page : (page : List ℕ) (texts : List (List ℕ)) (traced judgement : Judgement) → JudgesSource (OverSchedule tree_trace_text) texts traced
      → judgement ≡ in_page page texts traced → JudgesPage (page ∷ texts) judgement

-- one that reads nothing, and writes this
abbrev pub Tells : List ℕ → List (List ℕ) → Judgement → Type 0
Tells text texts judgement = (texts ≡ []) × (judgement ≡ Writes text)

-- a trial reads nothing, and ends as if the two texts that are made for it were read
abbrev pub JudgesTrial : ℕ → List (List ℕ) → Judgement → Type 0
JudgesTrial n texts judgement =
    (texts ≡ []) × EndsBy (JudgesSource (OverSchedule (summary_text n))) [] (source_of n ∷ made_schedule n ∷ []) judgement

-- What each command makes of the texts that it has read.
abbrev pub Judges : Command → Judging
Judges Run texts judgement = JudgesSource (OverSchedule run_text) texts judgement
Judges Survive texts judgement = JudgesSource (OverSchedule survivors_text) texts judgement
Judges Replay texts judgement = JudgesSource PlainGoesOn texts judgement
Judges Check texts judgement = JudgesSource CheckGoesOn texts judgement
Judges ListCode texts judgement = JudgesSource CodeGoesOn texts judgement
Judges (Trial n) texts judgement = JudgesTrial n texts judgement
Judges Session texts judgement = JudgesSource SessionGoesOn texts judgement
Judges Analyse texts judgement = JudgesHistory texts judgement
Judges Survey texts judgement = JudgesSource (OverSchedule tree_standing_text) texts judgement
Judges Compile texts judgement = JudgesSource CompileGoesOn texts judgement
Judges Load texts judgement = JudgesFirst ImageRefused ImageHolds LoadGoesOn texts judgement
Judges Trace texts judgement = JudgesSource (OverSchedule tree_trace_text) texts judgement
Judges Page texts judgement = JudgesPage texts judgement
Judges (Explain text) texts judgement = Tells text texts judgement
Judges (Usage line) texts judgement = Tells line texts judgement

-- the same with the limits of the files: a text above its limit is refused for that, before anything else is said of it
abbrev pub JudgesWithin : Request → Judging
JudgesWithin request = Limited (Judges request.command) request.files

-- the judgement with which a request ends, by the texts of its files
abbrev pub EndsWith : Request → List (List ℕ) → Judgement → Type 0
EndsWith request texts judgement = EndsBy (JudgesWithin request) [] texts judgement

-- `plain` and `session` take memory while they write, so a prefix of their text may have been written by then; no other command does
abbrev pub TakesWhileWriting : Command → Type 0
TakesWhileWriting Replay = Unit {0}
TakesWhileWriting Session = Unit {0}
TakesWhileWriting command = ⊥
