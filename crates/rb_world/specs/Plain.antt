-- The plain run of a record: the turns that survived, taken alone. Nothing is ever rejected, no bound is counted, no
-- conversation is broken, and the alternate of a start is the record's.
use Rattle.std.specs.Prelude.{ℕ, ℤ, ◌+◌, nat_eq, nat_le, nat_lt, Bool, true, false, cond, ◌&&◌, List, [], ◌∷◌, length, slice_get, Option, Some, None}
use Rattle.rb_base.specs.declared.kept.Kept.{Kept}
use Rattle.rb_world.specs.Kind.{Kind, Want, NothingLeft, SendsOn, ReceivesOn, MayReceiveOn, Enters, Starts, Acts, Stepped, Trapped, Went, Held}
use Rattle.rb_world.specs.World.{Level, ProcessStatus, Running, Finished, FailedWith, Process, World, last_of, copy_of}
use Rattle.rb_world.specs.Channels.{has_room, message_there}
use Rattle.rb_world.specs.Turn.{Moved, Told, took, open_at, moved_to, accepted, finishes, most_levels}

-- what is said where a condition holds, and nothing is said elsewhere.
abbrev pub when : {A : Type 0} → Bool → Option A → Option A
when true a = a
when false a = None

-- what a step comes to in a plain run: a trap leaves it stuck, all else is as in a run
abbrev pub plain_stepped : {S C M : Type 0} → Kind S C M → Kept → List (Level C) → World S C M → Stepped S M → Option (Moved S C M)
plain_stepped k kept levels w (Trapped cause) = None
plain_stepped k kept levels w (Went s m) =
    Some (took (moved_to k kept.process levels w (k.keep kept.turn kept.alternate s m)))
plain_stepped k kept levels w (Held s) =
    Some (accepted k kept.process levels (last_of levels) w (k.keep kept.turn kept.alternate s w.memory))

-- a step at the alternate that the record gives, with the message that it takes
abbrev pub plain_steps : {S C M : Type 0} → Kind S C M → Kept → Option ℤ → Process S C → World S C M → Option (Moved S C M)
plain_steps k kept message q w =
    plain_stepped k kept q.levels w (k.step kept.alternate (copy_of (last_of q.levels)) q.state message w.memory)

-- a receipt takes the message that is there; without one the plain run is stuck
abbrev pub plain_receives : {S C M : Type 0} → Kind S C M → Kept → Process S C → World S C M → Option ℤ → Option (Moved S C M)
plain_receives k kept q w None = None
plain_receives k kept q w (Some v) = plain_steps k kept (Some v) q w

-- an alternate is given for a start alone
abbrev pub no_alternate : Kept → Bool
no_alternate kept = nat_eq kept.alternate 0

-- how many alternates the block of a level has, and none without a level.
abbrev pub alternates_of : {C : Type 0} → Option (Level C) → ℕ
alternates_of None = 0
alternates_of (Some level) = level.facts.alternates

-- the record gives an alternate, and the innermost recovery block has it
abbrev pub has_alternate : {S C : Type 0} → Kept → Process S C → Bool
has_alternate kept q = nat_lt 0 kept.alternate && nat_le kept.alternate (alternates_of (last_of q.levels))

-- what stands first decides, as in a run; where a run would idle, wait or trap, the plain run is stuck
abbrev pub plain_acts : {S C M : Type 0} → Kind S C M → Kept → Process S C → World S C M → Want → Option (Moved S C M)
plain_acts k kept q w NothingLeft = None
plain_acts k kept q w (SendsOn c) = when (no_alternate kept && has_room k w c) (plain_steps k kept None q w)
plain_acts k kept q w (ReceivesOn c) = when (no_alternate kept) (plain_receives k kept q w (message_there k w c))
plain_acts k kept q w (MayReceiveOn c) = when (no_alternate kept) (plain_steps k kept (message_there k w c) q w)
plain_acts k kept q w (Enters facts) =
    when (no_alternate kept && nat_lt (length q.levels) most_levels) (Some (open_at k kept.turn kept.process facts 0 q w))
plain_acts k kept q w Starts = when (has_alternate kept q) (plain_steps k kept None q w)
plain_acts k kept q w Acts = when (no_alternate kept) (plain_steps k kept None q w)

-- a running process acts; one at a test line, done or failed leaves the plain run stuck
abbrev pub plain_runs : {S C M : Type 0} → Kind S C M → Kept → Process S C → World S C M → ProcessStatus → Option (Moved S C M)
plain_runs k kept q w Running = cond q.at_line None (plain_acts k kept q w (k.want q.state))
plain_runs k kept q w Finished = None
plain_runs k kept q w (FailedWith cause) = None

-- a turn that the record keeps, of a process that may not exist; without one the plain run is stuck
abbrev pub plain_moves : {S C M : Type 0} → Kind S C M → Kept → World S C M → Option (Process S C) → Option (Moved S C M)
plain_moves k kept w None = None
plain_moves k kept w (Some q) = plain_runs k kept q w q.status

-- one turn of a record, or none where it is stuck
abbrev pub plain_turned : {S C M : Type 0} → Kind S C M → World S C M → Option (Moved S C M) → Option (World S C M × Told)
plain_turned k before None = None
plain_turned k before (Some moved) = Some (finishes k before moved)

-- a turn that the record keeps, from a world: the world after it and what is told, or none where it is stuck
abbrev pub plain_turn : {S C M : Type 0} → Kind S C M → Kept → World S C M → Option (World S C M × Told)
plain_turn k kept w = plain_turned k w (plain_moves k kept w (slice_get w.processes kept.process))

-- How a plain run ends: with a world, and what was told of each turn by its number; or stuck at a turn.
pub data PlainEnd (S C M : Type 0) : Type 0 where
  Ended : (world : World S C M) (lines : List (ℕ × Told)) → PlainEnd S C M
  StuckAt : (turn : ℕ) → PlainEnd S C M

-- what is told of turn t comes before what is told of the turns after it
abbrev pub plain_told : {S C M : Type 0} → ℕ → Told → PlainEnd S C M → PlainEnd S C M
plain_told t one (Ended w all) = Ended w ((t, one) ∷ all)
plain_told t one (StuckAt u) = StuckAt u

-- the plain run goes on from the world after turn t, or is stuck there
abbrev pub plain_on : {S C M : Type 0} → ℕ → Option (World S C M × Told) → (World S C M → PlainEnd S C M) → PlainEnd S C M
plain_on t None others = StuckAt t
plain_on t (Some (w, one)) others = plain_told t one (others w)

-- the plain run of a record from a world, turn by turn
abbrev pub plain_run : {S C M : Type 0} → Kind S C M → List Kept → World S C M → PlainEnd S C M
plain_run k [] w = Ended w []
plain_run k (kept ∷ record') w = plain_on kept.turn (plain_turn k kept w) (plain_run k record')

-- a kept turn takes its place among others, by its number.
abbrev pub insert_kept : Kept → List Kept → List Kept
insert_kept one [] = one ∷ []
insert_kept one (other ∷ others) =
    cond (nat_lt one.turn other.turn) (one ∷ other ∷ others) (other ∷ insert_kept one others)

-- all kept turns of process p take their places among others
abbrev pub insert_all : ℕ → List (ℕ × ℕ) → List Kept → List Kept
insert_all p [] others = others
insert_all p ((t, a) ∷ turns) others = insert_kept (record { turn = t; process = p; alternate = a }) (insert_all p turns others)

-- the kept turns of the processes from number p on, in the order of their numbers
abbrev pub survivors_from : ℕ → List (List (ℕ × ℕ)) → List Kept
survivors_from p [] = []
survivors_from p (turns ∷ others) = insert_all p turns (survivors_from (p + 1) others)

-- the survivors, from the kept turns of each process
abbrev pub survivors_of : List (List (ℕ × ℕ)) → List Kept
survivors_of turns = survivors_from 0 turns
