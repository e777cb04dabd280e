-- The verdict on each text that a command reads: for which fault it is refused, or what it lists. No text is above its limit here: the driver
-- refuses such a text by itself.
use Rattle.std.specs.Prelude.{◌≡◌, ℕ, List, length, map, Ok, Err}
use Rattle.rb_base.specs.declared.fault.SourceFault.{SourceFault}
use Rattle.rb_base.specs.declared.fault.TextFault.{TextFault}
use Rattle.rb_base.specs.declared.kept.Kept.{Kept}
use Rattle.rb_syntax.specs.Tree.{Tree}
use Rattle.rb_world.specs.Text.{record_text}
use Rattle.rb_meaning.specs.Meaning.{naming_of, run_of, survivors}
use Rattle.rb_meaning.specs.PlainRun.{plain_text}
use Rattle.rb_judge.specs.Verdict.{IsRefusedFor}
use Rattle.rb_image.specs.Laws.{IsImage, IsNoImage}
use Rattle.rb_sched.specs.Schedule.{schedule_of}
use Rattle.rb_record.specs.Record.{record_of}
use Rattle.rb_domino.specs.History.{Story, history_of}
use Rattle.rb_domino.specs.Recovery.{outcome_of}
use Rattle.rb_domino.specs.Written.{outcome_text}
use Rattle.rb_script.specs.declared.order.Order.{Order}
use Rattle.rb_script.specs.Script.{script_of}
use Rattle.rb_script.specs.Shown.{tree_session_text}
use Rattle.rb_hall.specs.declared.fault.Fault.{Fault}
use Rattle.rb_hall.specs.declared.fault.Fault.TheVariants as of
use Rattle.rb_verdict.specs.Programs.{MayRun, Program}

-- a source is refused for its first fault
pub data SourceRefused (source : List ℕ) : Fault → Type 0 where
  bad_source : (fault : SourceFault) → IsRefusedFor source fault → SourceRefused source (of.Source fault)

-- the names that a schedule may give: those of the processes, in the order of declaration
abbrev pub names_of : Tree → List (List ℕ)
names_of tree = map (λ process. process.name.text) tree.processes

-- a schedule for processes of these names is refused for its first fault
pub data ScheduleRefused (names : List (List ℕ)) (text : List ℕ) : Fault → Type 0 where
  bad_schedule : (fault : TextFault) → schedule_of names text ≡ Err fault → ScheduleRefused names text (of.Text fault)

-- The schedule is accepted, and this is the text of its turns.
pub record ScheduleRuns (names : List (List ℕ)) (text_of : List ℕ → List ℕ) (schedule text : List ℕ) : Type 0 where
  pub turns : List ℕ
  pub listed : schedule_of names schedule ≡ Ok turns
  pub is : text ≡ text_of turns

-- the survivors of a run, as a record
abbrev pub survivors_text : Tree → List ℕ → List ℕ
survivors_text tree turns = record_text (naming_of tree) (survivors (run_of tree turns).0)

-- a record for an accepted source is refused for its first fault, or for the turn at which its plain run is stuck
pub data RecordRefused (tree : Tree) (text : List ℕ) : Fault → Type 0 where
  bad_record : (fault : TextFault) → record_of (names_of tree) text ≡ Err fault → RecordRefused tree text (of.Text fault)
  stuck_record : (turns : List Kept) (turn : ℕ) → record_of (names_of tree) text ≡ Ok turns → plain_text tree turns ≡ Err turn
      → RecordRefused tree text (of.Stuck turn)

-- The record of an accepted source is one, and the plain run of the source's tree over its turns has this text.
pub record RecordPlays (tree : Tree) (kept text : List ℕ) : Type 0 where
  pub turns : List Kept
  pub listed : record_of (names_of tree) kept ≡ Ok turns
  pub is : plain_text tree turns ≡ Ok text

-- the schedule of an accepted source is accepted, and lists these turns
abbrev pub ListsTurns : Tree → List ℕ → List ℕ → Type 0
ListsTurns tree schedule turns = schedule_of (names_of tree) schedule ≡ Ok turns

-- a session over turns of an accepted source is refused for its first fault
pub data SessionRefused (tree : Tree) (turns text : List ℕ) : Fault → Type 0 where
  bad_session : (fault : TextFault) → script_of (names_of tree) (length turns) text ≡ Err fault → SessionRefused tree turns text (of.Text fault)

-- The session is accepted, and this is the text of its orders over the run of the source's tree.
pub record SessionShows (tree : Tree) (turns session text : List ℕ) : Type 0 where
  pub orders : List Order
  pub listed : script_of (names_of tree) (length turns) session ≡ Ok orders
  pub is : text ≡ tree_session_text tree turns orders

-- an image is refused: it is that of nothing, or of a program which may not be run
pub data ImageRefused (bytes : List ℕ) : Fault → Type 0 where
  no_image : IsNoImage bytes → ImageRefused bytes of.NoImage
  unsound_image : (program : Program) → IsImage bytes program.code program.groups program.counts → (MayRun program → ⊥)
      → ImageRefused bytes of.Unsound

-- an image that is accepted, with its program
pub record ImageHolds (bytes : List ℕ) (program : Program) : Type 0 where
  pub image : IsImage bytes program.code program.groups program.counts
  pub may_run : MayRun program

-- a history is refused for its first fault
pub data HistoryRefused (text : List ℕ) : Fault → Type 0 where
  bad_history : (fault : TextFault) → history_of text ≡ Err fault → HistoryRefused text (of.Text fault)

-- A text is a history, and this is written of what its failure leaves.
pub record HistoryTells (text written : List ℕ) : Type 0 where
  pub story : Story
  pub listed : history_of text ≡ Ok story
  pub is : written ≡ outcome_text story (outcome_of story)
