-- How the outcome of a failure is written: a line for each state that is given up, and then one for each process.
use Rattle.std.specs.Prelude.{ℕ, ◌==◌, cond, List, [], ◌∷◌, ◌++◌, slice_index_or, codes, pos, Option, Some, None}
use Rattle.std.specs.List.{flat_map}
use Rattle.std.specs.Fmt.{signed_decimal}
use Rattle.rb_domino.specs.declared.analysis.TheConstants.{NOW}
use Rattle.rb_domino.specs.declared.analysis.Dropped.{Dropped}
use Rattle.rb_domino.specs.History.{Story}
use Rattle.rb_domino.specs.Recovery.{Outcome, line_of, message_at}

-- a state is written by its number, or as `now`
abbrev pub state_text : ℕ → List ℕ
state_text state = cond (state == NOW) (codes "now") (signed_decimal (pos state))

abbrev pub process_text : Story → ℕ → List ℕ
process_text story p = slice_index_or story.processes p []

-- what forced a drop: a message by its name, or the failure
abbrev pub cause_text : Story → Option ℕ → List ℕ
cause_text story None = codes "fail"
cause_text story (Some m) = (message_at story m).name

abbrev pub drop_text : Story → Dropped → List ℕ
drop_text story drop =
    codes "drop " ++ (process_text story drop.process ++ (codes " " ++ (state_text drop.state
    ++ (codes " by " ++ (cause_text story drop.message ++ codes "\n")))))

abbrev pub place_text : List ℕ → ℕ → List ℕ
place_text name state = codes "line " ++ (name ++ (codes " " ++ (state_text state ++ codes "\n")))

-- the line of each process, with its name
abbrev pub line_text : List (List ℕ) → List ℕ → List ℕ
line_text [] states = []
line_text (name ∷ names) [] = []
line_text (name ∷ names) (state ∷ states) = place_text name state ++ line_text names states

-- the whole text
abbrev pub analysis_text : Story → List Dropped → List ℕ → List ℕ
analysis_text story drops line = flat_map (drop_text story) drops ++ line_text story.processes line

abbrev pub outcome_text : Story → Outcome → List ℕ
outcome_text story outcome = analysis_text story outcome.drops (line_of outcome.left)
