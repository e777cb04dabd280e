-- What an analysis holds while states are given up, beside the states that are left: which messages each process sent before
-- its state, and which of the others may break the line.
use Rattle.std.specs.Prelude.{◌≡◌, ℕ, ◌<◌, ◌≤◌, Bool, true, ◌⊎◌, List, [], ◌∷◌, ◌++◌, length, map, reverse, slice_get, slice_index_or, slice_set, sum_by, vec_len, Vec, Option, Some}
use Rattle.std.specs.List.{AllByRecursion}
use Rattle.std.specs.Ordering.{nat_cmp}
use Rattle.std.specs.BTreeSet.{BTreeSet, contains}
use Rattle.rb_domino.specs.declared.line.Line.{Line}
use Rattle.rb_domino.specs.declared.line.Line.TheVariants.{Begin, Point, Send, Take, Fail}
use Rattle.rb_domino.specs.declared.line.Message.{Message}
use Rattle.rb_domino.specs.declared.state.State.{State}
use Rattle.rb_domino.specs.declared.analysis.TheConstants.{NOW}
use Rattle.rb_domino.specs.declared.board.Board.{Board}
use Rattle.rb_domino.specs.History.{Story, IsTakenAt}
use Rattle.rb_domino.specs.declared.analysis.Dropped.{Dropped}
use Rattle.rb_domino.specs.Recovery.{IsOneOf, Outcome, message_at, stands}

-- what a vector holds as a stack, the top first
abbrev pub stack : {X : Type 0} → List X → List X
stack items = reverse items

abbrev pub stacks : {X A : Type 0} → List (Vec X A) → List (List X)
stacks vectors = map (λ vector. stack vector.items) vectors

-- how many elements lists have in all
abbrev pub in_all : {X : Type 0} → List (List X) → ℕ
in_all lists = sum_by length lists

-- of lists, the one of this number
abbrev pub list_at : {X : Type 0} → List (List X) → ℕ → List X
list_at lists p = slice_index_or lists p []

-- messages of these numbers, the last first
abbrev pub AreFalling : List ℕ → Type 0
AreFalling [] = Unit {0}
AreFalling (m ∷ ms) = AllByRecursion (λ n. n < m) ms × AreFalling ms

-- a line names processes and messages below these numbers
abbrev pub NamesKnown : ℕ → ℕ → Line → Type 0
NamesKnown processes messages (Begin p) = p < processes
NamesKnown processes messages (Point p) = p < processes
NamesKnown processes messages (Send m) = m < messages
NamesKnown processes messages (Take m) = m < messages
NamesKnown processes messages (Fail p) = p < processes

-- a message between processes below this number, sent before this place
pub record IsBetween (processes end : ℕ) (message : Message) : Type 0 where
  pub sender : message.sender < processes
  pub receiver : message.receiver < processes
  pub sent : message.sent < end

-- what is known of the lines of each history
pub record IsOrderly (story : Story) : Type 0 where
  pub lines : AllByRecursion (NamesKnown (length story.processes) (length story.messages)) story.lines
  pub messages : AllByRecursion (IsBetween (length story.processes) (length story.lines)) story.messages
  pub in_order : (m n : ℕ) → m < n → n < length story.messages → (message_at story m).sent < (message_at story n).sent
  pub once : (m a b : ℕ) → IsTakenAt story m a → IsTakenAt story m b → a ≡ b

-- for each message the place where it is taken, if it is
pub record AreTakes (story : Story) (takes : List (Option ℕ)) : Type 0 where
  pub told : (m taken : ℕ) → IsTakenAt story m taken → slice_get takes m ≡ Some (Some taken)
  pub sound : (m taken : ℕ) → slice_get takes m ≡ Some (Some taken) → IsTakenAt story m taken

-- a message that was taken at this place, and was sent behind its sender's state
pub record Pends (story : Story) (left : List (List State)) (taken : ℕ) : Type 0 where
  pub message : ℕ
  pub is_taken : IsTakenAt story message taken
  pub behind : (stands left (message_at story message).sender).place < (message_at story message).sent

-- For each process the messages that it sent up to its state; of the others, those that are taken before their receiver's state
-- are pending, by the places of their `take` lines.
pub record AreSplit (story : Story) (left : List (List State)) (sends : List (List ℕ)) (pending : ℕ → Bool) : Type 0 where
  pub falling : (p : ℕ) → AreFalling (list_at sends p)
  pub known : (p : ℕ) → AllByRecursion (λ m. m < length story.messages) (list_at sends p)
  pub own : (p m : ℕ) → IsOneOf m (list_at sends p) → (message_at story m).sender ≡ p
  pub before : (p : ℕ) → AllByRecursion (λ m. (message_at story m).sent ≤ (stands left p).place) (list_at sends p)
  pub covers : (m taken : ℕ) → IsTakenAt story m taken →
      IsOneOf m (list_at sends (message_at story m).sender)
      ⊎ (taken < (stands left (message_at story m).receiver).place → pending taken ≡ true)
  pub sound : (taken : ℕ) → pending taken ≡ true → Pends story left taken

-- whether a place is in a set
abbrev pub is_in : BTreeSet ℕ → ℕ → Bool
is_in set place = contains nat_cmp set place

-- what a board has left to each process
abbrev pub left_on : Board → List (List State)
left_on board = stacks board.states.items

-- a board of a history
pub record Holds (story : Story) (board : Board) : Type 0 where
  pub orderly : IsOrderly story
  pub takes : AreTakes story board.takes.items
  pub all_takes : vec_len board.takes ≡ length story.messages
  pub all_states : vec_len board.states ≡ length story.processes
  pub all_sends : vec_len board.sends ≡ length story.processes
  pub split : AreSplit story (left_on board) (stacks board.sends.items) (is_in board.pending)

-- What comes of the messages that a process sent behind a place: they leave its stack, and those that are taken are pending.
pub record Unsends (story : Story) (takes : List (Option ℕ)) (place : ℕ) (old new : List ℕ) (before after : ℕ → Bool) : Type 0 where
  pub falling : AreFalling new
  pub known : AllByRecursion (λ m. m < length story.messages) new
  pub kept : AllByRecursion (λ m. (message_at story m).sent ≤ place) new
  pub within : (m : ℕ) → IsOneOf m new → IsOneOf m old
  pub moved : (m : ℕ) → IsOneOf m old → IsOneOf m new ⊎ ((taken : ℕ) → slice_get takes m ≡ Some (Some taken) → after taken ≡ true)
  pub keeps : (taken : ℕ) → before taken ≡ true → after taken ≡ true
  pub sound : (taken : ℕ) → after taken ≡ true →
      (before taken ≡ true) ⊎ ((m : ℕ) × IsOneOf m old × (slice_get takes m ≡ Some (Some taken)) × (place < (message_at story m).sent))

-- lists of states, where a recovery point of process p is added
abbrev pub with_point : ℕ → ℕ → List (List State) → List (List State)
with_point at p lists = slice_set lists p (record { number = length (list_at lists p); place = at } ∷ list_at lists p)

-- what a line adds
abbrev pub noted : ℕ → Line → List (List State) → List (List State)
noted at (Begin p) lists = with_point at p lists
noted at (Point p) lists = with_point at p lists
noted at (Send m) lists = lists
noted at (Take m) lists = lists
noted at (Fail p) lists = lists

-- a recovery point is one of these processes
abbrev pub PointsKnown : ℕ → Line → Type 0
PointsKnown processes (Begin p) = p < processes
PointsKnown processes (Point p) = p < processes
PointsKnown processes (Send m) = Unit {0}
PointsKnown processes (Take m) = Unit {0}
PointsKnown processes (Fail p) = Unit {0}

-- on the first n lists lies `now`
pub record Topped (end n : ℕ) (old new : List (List State)) : Type 0 where
  pub counted : length new ≡ length old
  pub done : (p : ℕ) → p < n → list_at new p ≡ record { number = NOW; place = end } ∷ list_at old p
  pub left : (p : ℕ) → n ≤ p → list_at new p ≡ list_at old p

-- the first n messages lie on the lists of their senders, the last on top
pub record AreSends (story : Story) (n : ℕ) (lists : List (List ℕ)) : Type 0 where
  pub counted : length lists ≡ length story.processes
  pub falling : (p : ℕ) → AreFalling (list_at lists p)
  pub below : (p m : ℕ) → IsOneOf m (list_at lists p) → m < n
  pub own : (p m : ℕ) → IsOneOf m (list_at lists p) → (message_at story m).sender ≡ p
  pub all : (m : ℕ) → m < n → IsOneOf m (list_at lists (message_at story m).sender)
  pub once : in_all lists ≡ n

-- what a line tells of where messages are taken
abbrev pub noted_take : ℕ → Line → List (Option ℕ) → List (Option ℕ)
noted_take at (Take m) takes = slice_set takes m (Some at)
noted_take at (Begin p) takes = takes
noted_take at (Point p) takes = takes
noted_take at (Send m) takes = takes
noted_take at (Fail p) takes = takes

-- a message that is taken is one of these
abbrev pub TakeKnown : ℕ → Line → Type 0
TakeKnown messages (Take m) = m < messages
TakeKnown messages (Begin p) = Unit {0}
TakeKnown messages (Point p) = Unit {0}
TakeKnown messages (Send m) = Unit {0}
TakeKnown messages (Fail p) = Unit {0}

-- the drops of an outcome were added, and what it leaves is left
pub record Falls (outcome : Outcome) (before after : List Dropped) (left : List (List State)) : Type 0 where
  pub drops : after ≡ before ++ outcome.drops
  pub left_is : left ≡ outcome.left
