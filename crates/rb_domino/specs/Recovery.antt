-- Recovery lines of a history: which states a failure leaves to its processes, and which message forces each state that is
-- given up. A recovery line and its roll-back by messages are those of Randell (1975); that drops go by the order of the `take`
-- lines is this project's own.
use Rattle.std.specs.Prelude.{◌≡◌, ℕ, zero, suc, ◌+◌, ◌==◌, nat_lt, Bool, false, ◌&&◌, cond, ◌⊎◌, List, [], ◌∷◌, ◌++◌, length, map, slice_index_or, slice_set, Option, Some, None}
use Rattle.rb_sched.specs.Schedule.{numbers_from}
use Rattle.rb_domino.specs.declared.line.Line.{Line}
use Rattle.rb_domino.specs.declared.line.Line.TheVariants.{Begin, Point, Take, Fail}
use Rattle.rb_domino.specs.declared.line.Message.{Message}
use Rattle.rb_domino.specs.declared.analysis.TheConstants.{NOW}
use Rattle.rb_domino.specs.declared.state.State.{State}
use Rattle.rb_domino.specs.declared.state.Fall.{Fall}
use Rattle.rb_domino.specs.declared.analysis.Dropped.{Dropped}
use Rattle.rb_domino.specs.History.{Story}

-- one of a list
abbrev pub IsOneOf : {X : Type 0} → X → List X → Type 0
IsOneOf x [] = ⊥
IsOneOf x (y ∷ ys) = (x ≡ y) ⊎ IsOneOf x ys

-- a line at which process p has a recovery point
abbrev pub is_point_of : ℕ → Line → Bool
is_point_of p (Begin q) = q == p
is_point_of p (Point q) = q == p
is_point_of p _ = false

-- the states of a process, the latest first: `now` behind the last line, and before it the recovery points. Those of earlier
-- lines are given, and the line at this place is next.
abbrev pub states_from : ℕ → ℕ → List State → List Line → List State
states_from p at points [] = record { number = NOW; place = at } ∷ points
states_from p at points (line ∷ lines) =
    states_from p (at + 1) (cond (is_point_of p line) (record { number = length points; place = at } ∷ points) points) lines

abbrev pub states_of : Story → ℕ → List State
states_of story p = states_from p 0 [] story.lines

-- what each process has before anything is given up
abbrev pub all_states : Story → List (List State)
all_states story = map (states_of story) (numbers_from 0 (length story.processes))

-- the states that a process still has, of the lists of all
abbrev pub left_to : List (List State) → ℕ → List State
left_to left p = slice_index_or left p []

-- the latest of the states that are left
abbrev pub latest : List State → State
latest [] = record { number = 0; place = 0 }
latest (state ∷ states) = state

-- where a process stands: at the latest state that it still has
abbrev pub stands : List (List State) → ℕ → State
stands left p = latest (left_to left p)

-- a message that was taken at this place breaks the line: it was taken before its receiver's state, and sent after its sender's
abbrev pub breaks : List (List State) → ℕ → Message → Bool
breaks left taken message = nat_lt taken (stands left message.receiver).place && nat_lt (stands left message.sender).place message.sent

-- the message of a number
abbrev pub no_message : Message
no_message = record { name = []; sender = 0; receiver = 0; sent = 0 }

abbrev pub message_at : Story → ℕ → Message
message_at story m = slice_index_or story.messages m no_message

-- the receiver of a message falls back behind its `take`
abbrev pub fall_by : Message → ℕ → ℕ → Fall
fall_by message m taken = record { process = message.receiver; after = taken; message = Some m }

-- the fall at a line, where a message is taken that breaks the recovery line
abbrev pub fall_at : Story → List (List State) → ℕ → Line → Option Fall
fall_at story left at (Take m) =
    cond (breaks left at (message_at story m)) (Some (fall_by (message_at story m) m at)) None
fall_at story left at _ = None

abbrev pub or_later : Option Fall → Option Fall → Option Fall
or_later (Some fall) later = Some fall
or_later None later = later

-- the fall by the first message that breaks the line, in the order of the lines from this place on
abbrev pub first_fall_from : Story → List (List State) → ℕ → List Line → Option Fall
first_fall_from story left at [] = None
first_fall_from story left at (line ∷ lines) = or_later (fall_at story left at line) (first_fall_from story left (at + 1) lines)

abbrev pub first_fall : Story → List (List State) → Option Fall
first_fall story left = first_fall_from story left 0 story.lines

-- the fall of the process that fails, which gives up what it has after its failure: that is `now`
abbrev pub failure_at : ℕ → Line → Option Fall
failure_at at (Fail p) = Some (record { process = p; after = at; message = None })
failure_at at _ = None

abbrev pub failure_from : ℕ → List Line → Option Fall
failure_from at [] = None
failure_from at (line ∷ lines) = or_later (failure_at at line) (failure_from (at + 1) lines)

-- of states, the latest first, those after a place
abbrev pub states_after : ℕ → List State → List State
states_after place [] = []
states_after place (state ∷ states) = cond (nat_lt place state.place) (state ∷ states_after place states) []

-- and the others
abbrev pub states_before : ℕ → List State → List State
states_before place [] = []
states_before place (state ∷ states) = cond (nat_lt place state.place) (states_before place states) (state ∷ states)

-- what a process gives up in a fall, from the latest to the earliest
abbrev pub drops_of : Fall → List (List State) → List Dropped
drops_of fall left =
    map (λ state. record { process = fall.process; state = state.number; message = fall.message })
    (states_after fall.after (left_to left fall.process))

-- what is left to all after a fall
abbrev pub left_after : Fall → List (List State) → List (List State)
left_after fall left = slice_set left fall.process (states_before fall.after (left_to left fall.process))

-- what comes of a failure: the states that are given up, in their order, and those that are left
pub record Outcome : Type 0 where
  pub drops : List Dropped
  pub left : List (List State)

-- these drops come first
abbrev pub after_drops : List Dropped → Outcome → Outcome
after_drops drops outcome = record { drops = drops ++ outcome.drops; left = outcome.left }

-- a fall, if there is one, and what comes after it
abbrev pub falls : List (List State) → Option Fall → (List (List State) → Outcome) → Outcome
falls left None go_on = record { drops = []; left = left }
falls left (Some fall) go_on = after_drops (drops_of fall left) (go_on (left_after fall left))

-- while a message breaks the line, the first such makes its receiver fall; so often at most
abbrev pub falls_by_messages : Story → ℕ → List (List State) → Outcome
falls_by_messages story zero left = record { drops = []; left = left }
falls_by_messages story (suc n) left = falls left (first_fall story left) (falls_by_messages story n)

-- First the process that failed gives up `now`, and then processes fall by messages. A message breaks a line once, so there are
-- no more falls than lines.
abbrev pub outcome_of : Story → Outcome
outcome_of story =
    falls (all_states story) (failure_from 0 story.lines) (falls_by_messages story (length story.lines))

-- the recovery line: the number of the state in which each process stands
abbrev pub line_of : List (List State) → List ℕ
line_of left = map (λ states. (latest states).number) left
