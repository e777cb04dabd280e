-- Recovery lines (Randell 1975): which of them are consistent; that the one which an analysis answers is the greatest; and how the
-- states that are given up, in their order, are a certificate that can be checked by itself.
use Rattle.std.specs.Prelude.{◌≡◌, ℕ, ◌<◌, ◌≤◌, ◌==◌, cond, List, [], ◌∷◌, drop, length, map, slice_index_or, slice_set, Option, Some, None}
use Rattle.rb_domino.specs.declared.analysis.TheConstants.{NOW}
use Rattle.rb_domino.specs.declared.state.State.{State}
use Rattle.rb_domino.specs.declared.analysis.Dropped.{Dropped}
use Rattle.rb_domino.specs.History.{Story, FailsAt, IsTakenAt}
use Rattle.rb_domino.specs.Recovery.{IsOneOf, all_states, latest, left_to, message_at, outcome_of, stands, states_after, states_of}

-- where process p stands on a line
abbrev pub state_at : List State → ℕ → State
state_at line p = slice_index_or line p (record { number = 0; place = 0 })

-- `now`, behind the last line
abbrev pub now_of : Story → State
now_of story = record { number = NOW; place = length story.lines }

-- a recovery line: for each process one of its states, and for the process that failed not `now`
pub record IsLine (story : Story) (line : List State) : Type 0 where
  pub counted : length line ≡ length story.processes
  pub states : (p : ℕ) → p < length story.processes → IsOneOf (state_at line p) (states_of story p)
  pub failed : (p at : ℕ) → FailsAt story p at → state_at line p ≡ now_of story → ⊥

-- no message was taken before its receiver's state and sent after its sender's
abbrev pub IsConsistent : Story → List State → Type 0
IsConsistent story line =
    (m taken : ℕ) → IsTakenAt story m taken → taken < (state_at line (message_at story m).receiver).place
    → (message_at story m).sent ≤ (state_at line (message_at story m).sender).place

-- no consistent line is later at any process
abbrev pub IsGreatest : Story → List State → Type 0
IsGreatest story line =
    (other : List State) → IsLine story other → IsConsistent story other
    → (p : ℕ) → (state_at other p).place ≤ (state_at line p).place

-- What forces a process to give up a state: that it failed before it; or that it took a message before it which was sent after the
-- state that is left to the sender.
abbrev pub Forces : Story → List (List State) → ℕ → State → Option ℕ → Type 0
Forces story left p state None = (at : ℕ) × FailsAt story p at × (at < state.place)
Forces story left p state (Some m) =
    ((message_at story m).receiver ≡ p)
    × ((stands left (message_at story m).sender).place < (message_at story m).sent)
    × ((taken : ℕ) × IsTakenAt story m taken × (taken < state.place))

-- what is left when a process gives up the latest of its states
abbrev pub without_latest : ℕ → List (List State) → List (List State)
without_latest p left = slice_set left p (drop 1 (left_to left p))

-- each drop is of the latest state that the drops before have left to its process, and is forced
abbrev pub AreForced : Story → List (List State) → List Dropped → Type 0
AreForced story left [] = Unit {0}
AreForced story left (d ∷ drops) =
    ((stands left d.process).number ≡ d.state) × Forces story left d.process (stands left d.process) d.message
    × AreForced story (without_latest d.process left) drops

-- the numbers of the states that a process gives up, in their order
abbrev pub dropped_by : ℕ → List Dropped → List ℕ
dropped_by p [] = []
dropped_by p (d ∷ drops) = cond (d.process == p) (d.state ∷ dropped_by p drops) (dropped_by p drops)

abbrev pub numbers : List State → List ℕ
numbers states = map (λ state. state.number) states

-- a line, and the states that were given up for it
pub record IsRecovered (story : Story) (drops : List Dropped) (line : List State) : Type 0 where
  pub is_line : IsLine story line
  pub consistent : IsConsistent story line
  pub greatest : IsGreatest story line
  pub each_once : (p : ℕ) → p < length story.processes
      → dropped_by p drops ≡ numbers (states_after (state_at line p).place (states_of story p))
  pub forced : AreForced story (all_states story) drops

-- the line that a failure leaves
abbrev pub recovery_line : Story → List State
recovery_line story = map latest (outcome_of story).left
