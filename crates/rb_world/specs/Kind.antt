-- A kind of process state: all that the turn of a world asks of one. The tree's meaning, the word machine and the plain
-- run of a record are kinds; levels, rejections, test lines and channels are the same for each.
--
-- In all files of this crate what is from a paper is marked with its year. The rest is this project's own, but for words of the
-- field, as test line and recovery cache.
use Rattle.std.specs.Prelude.{ℕ, ℤ, List, Option}
use Rattle.rb_base.specs.declared.event.Cause.{Cause}

-- a channel's two ends, as numbers of processes, and how many messages it has room for
pub record Ends : Type 0 where
  pub sender : ℕ
  pub receiver : ℕ
  pub size : ℕ

-- a conversation's members, and the conversation right around it
pub record Membership : Type 0 where
  pub members : List ℕ
  pub parent : Option ℕ

-- what is known of a recovery block at its entry: its number, by which two that are alike in all else are told apart; the
-- line of its word `ensure`; its conversation if it has one; its turn bound; and how many alternates it has
pub record Facts : Type 0 where
  pub number : ℕ
  pub line : ℕ
  pub conversation : Option ℕ
  pub bound : ℕ
  pub alternates : ℕ

-- what stands first in a process
pub data Want : Type 0 where
  NothingLeft : Want
  SendsOn : (channel : ℕ) → Want
  ReceivesOn : (channel : ℕ) → Want
  MayReceiveOn : (channel : ℕ) → Want
  Enters : (facts : Facts) → Want
  Starts : Want
  Acts : Want

-- what a step comes to: a trap, the state and the memory after it, or an acceptance test that held
pub data Stepped (S M : Type 0) : Type 0 where
  Trapped : (cause : Cause) → Stepped S M
  Went : (state : S) (memory : M) → Stepped S M
  Held : (state : S) → Stepped S M

-- A kind of process state. S is all that belongs to one process: its recoverable state, which a rejection puts back, and beside it
-- what a kind keeps of the process and leaves as it is. C is what an entry copies of it, M a memory of all processes that no
-- entry copies. A state knows of which process it is.
pub record Kind (S C M : Type 0) : Type 0 where
  pub channels : List Ends
  pub groups : List Membership
  -- what stands first
  pub want : S → Want
  -- what comes between two turns and costs none, as ends of blocks and calls do; given the innermost recovery point, since it may
  -- read what stood there at the entry
  pub settle : Option C → S → S
  -- puts the start of an alternate in the place of the entry
  pub enter : S → S
  -- the recovery point that an entry sets
  pub copy : S → C
  -- the state with the recovery point put back
  pub restore : S → C → S
  -- the state once only so many levels are open
  pub cut : ℕ → S → S
  -- the state once the innermost level was accepted
  pub accept : S → S
  -- one step at an alternate, given the innermost recovery point and the message that is taken
  pub step : ℕ → Option C → S → Option ℤ → M → Stepped S M
  -- how many values were sent on a channel, and taken from it; now, and in a recovery point
  pub sent : S → ℕ → ℕ
  pub taken : S → ℕ → ℕ
  pub sent_then : S → C → ℕ → ℕ
  pub taken_then : S → C → ℕ → ℕ
  -- a value that was sent on a channel, by its number
  pub message : M → S → ℕ → ℕ → ℤ
  pub message_then : M → S → C → ℕ → ℕ → ℤ
  -- the lines that are held, and the state without them
  pub held : S → List (List ℕ)
  pub release : S → S
  -- a turn is kept, with its alternate if it started one and else 0
  pub keep : ℕ → ℕ → S → M → S × M
