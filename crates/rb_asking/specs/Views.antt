-- What the words of `rblview` ask for. All of it is this project's own.
use Rattle.std.specs.Prelude.{ℕ, List, [], ◌∷◌, codes, cond, Option, Some, None, option_map}
use Rattle.rb_asking.specs.Forms.{Form, asked_by}
use Rattle.rb_asking.specs.Leading.{is_help, is_help_alone, is_version}
use Rattle.rb_asking.specs.Number.{trial_number}
use Rattle.rb_words.specs.Given.{with_last, with_one, with_perhaps, with_three, with_two}

-- what a fault or a cause of this name means, or which there are; the trace of a run, by itself or in a page; what the source under a name comes to
-- over all schedules, or a schedule that leads to the outcome of a number; all faults of the source under a name; how the command of this name is
-- used, or how all are; and the version
pub data View : Type 0 where
  Explains : (name : Option (List ℕ)) → View
  Traces : (source schedule : List ℕ) → View
  Pages : (page source schedule : List ℕ) → View
  Explores : (source : List ℕ) (number : Option ℕ) → View
  Lists : (source : List ℕ) → View
  Helps : (name : Option (List ℕ)) → View
  TellsVersion : View

-- what `explore` asks for with a source, and a number if one is given
abbrev pub explored_by : List ℕ → Option (List ℕ) → Option View
explored_by source None = Some (Explores source None)
explored_by source (Some word) = option_map (λ number. Explores source (Some number)) (trial_number word)

-- the commands that take plain words alone
abbrev pub forms : List (Form View)
forms =
    record { name = codes "explain"; with = with_perhaps Explains }
    ∷ record { name = codes "trace"; with = with_two Traces }
    ∷ record { name = codes "page"; with = with_three Pages }
    ∷ record { name = codes "explore"; with = with_last explored_by }
    ∷ record { name = codes "faults"; with = with_one Lists } ∷ []

-- what words ask for that begin with the name of one
abbrev pub commanded_by : List (List ℕ) → Option View
commanded_by words = asked_by forms words

-- what the words behind `version` ask for
abbrev pub version_with : List (List ℕ) → Option View
version_with [] = Some TellsVersion
version_with (word ∷ words) = None

-- what the words ask for, if they give a command: a word for help has one behind it at most, a word for the version none
abbrev pub view_of : List (List ℕ) → Option View
view_of [] = None
view_of (first ∷ words) =
    cond (is_help first) (with_perhaps Helps words)
    (cond (is_help_alone words) (Some (Helps (Some first)))
    (cond (is_version first) (version_with words) (commanded_by (first ∷ words))))
