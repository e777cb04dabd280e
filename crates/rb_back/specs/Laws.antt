-- The laws of sessions.
use Rattle.std.specs.Prelude.{◌≡◌, ◌≤◌, ◌<◌, ℕ, List, length, slice_get, take, Some}
use Rattle.rb_syntax.specs.Tree.{Tree}
use Rattle.rb_world.specs.Kind.{Membership}
use Rattle.rb_meaning.specs.Groups.{groups_of}
use Rattle.rb_code.specs.Instructions.Plain.{Code}
use Rattle.rb_code.specs.WordMachine.WordRun.{word_run}
use Rattle.rb_recovery.specs.Reading.{states_of, variables_of}
use Rattle.rb_prepare.specs.Laws.{OfEveryCode}
use Rattle.rb_script.specs.declared.order.Order.{Order}
use Rattle.rb_back.specs.Course.{Course, MayStep, opening_course, shown_states, shown_variables, stepped, went_back}
use Rattle.rb_script.specs.Shown.{session_text, tree_session_text}

-- What a session comes to by steps and backs, in any order, over the turns of a list: a step is of the process whose turn is next there.
pub data Reaches (c : Code) (groups : List Membership) (turns : List ℕ) : Course → Type 0 where
  loaded : (most : ℕ) → Reaches c groups turns (opening_course c groups most)
  forth : {s : Course} (p : ℕ) → Reaches c groups turns s → slice_get turns s.position ≡ Some p → Reaches c groups turns (stepped s p)
  back : {s : Course} → Reaches c groups turns s → 0 < s.position → Reaches c groups turns (went_back s)

-- a session shows the run over the first turns up to its position
pub record ShowsRun (c : Code) (groups : List Membership) (turns : List ℕ) (s : Course) : Type 0 where
  pub states : shown_states s ≡ states_of (word_run c groups (take s.position turns)).0.processes
  pub variables : shown_variables s ≡ variables_of c (word_run c groups (take s.position turns)).0.processes

-- So it is after every list of steps and backs.
abbrev pub ViewIsOfRun : Type 0
ViewIsOfRun = (c : Code) (groups : List Membership) (turns : List ℕ) (s : Course) → Reaches c groups turns s → ShowsRun c groups turns s

-- two sessions show the same, at the same position
pub record ShowTheSame (s t : Course) : Type 0 where
  pub position : t.position ≡ s.position
  pub states : shown_states t ≡ shown_states s
  pub variables : shown_variables t ≡ shown_variables s

-- One step back behind one forth leaves what is shown and the position as before.
abbrev pub BackBehindStep : Type 0
BackBehindStep = (s : Course) (p : ℕ) → s.position ≤ length s.ran → MayStep s p → ShowTheSame s (went_back (stepped s p))

-- The code of every accepted source shows what the meaning shows, over all turns and orders.
abbrev pub ShowsAsMeant : Tree → Code → Type 0
ShowsAsMeant tree c =
    (turns : List ℕ) (orders : List Order) → session_text c (groups_of tree) turns orders ≡ tree_session_text tree turns orders

abbrev pub CodeShowsAsMeant : Type 0
CodeShowsAsMeant = OfEveryCode ShowsAsMeant
