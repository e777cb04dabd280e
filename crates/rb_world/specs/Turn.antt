-- One turn of one process, which is one atomic event; and a run, which is a list of turns. The acceptance test is
-- evaluated when an alternate has been completed, and a recovery point is set at the entry (Horning, Lauer,
-- Melliar-Smith, Randell 1974); members of a conversation enter at different times and none leaves before all have
-- passed their tests (Randell 1975).
use Rattle.std.specs.Prelude.{ℕ, ℤ, ◌+◌, nat_lt, nat_le, Bool, true, false, cond, ◌&&◌, List, [], ◌∷◌, ◌++◌, length, map, position, slice_get, Option, Some, None}
use Rattle.std.specs.List.{list_all}
use Rattle.rb_base.specs.declared.event.Cause.{Cause}
use Rattle.rb_base.specs.declared.event.Cause.TheVariants.{Overrun, Depth, Broken}
use Rattle.rb_base.specs.declared.event.Event.{Event}
use Rattle.rb_base.specs.declared.event.Event.TheVariants.{Error, Pass, Done}
use Rattle.rb_base.specs.declared.event.TurnKind.{TurnKind}
use Rattle.rb_base.specs.declared.event.TurnKind.TheVariants.{Idle, Wait, Took, Undone}
use Rattle.rb_base.specs.declared.limits.TheConstants.{MOST_OPEN_LEVELS}
use Rattle.rb_world.specs.Kind.{Facts, Kind, Membership, Want, NothingLeft, SendsOn, ReceivesOn, MayReceiveOn, Enters, Starts, Acts, Stepped, Trapped, Went, Held}
use Rattle.rb_world.specs.World.{Level, ProcessStatus, Running, Finished, FailedWith, Process, Talk, World, change_at, last_of, without_last, is_of, process_levels, talk_at, with_process, with_each, with_talks, with_memory, goes_on, settled, copy_of}
use Rattle.rb_world.specs.Channels.{has_room, message_there}
use Rattle.rb_world.specs.Reject.{Happened, first_again, fallen, reject}

-- what a turn came to, before held lines are released
pub record Moved (S C M : Type 0) : Type 0 where
  pub world : World S C M
  pub kind : TurnKind
  pub rejections : List Event
  pub passes : List Event

-- a turn of a process that is done or has failed: nothing changes
abbrev pub idles : {S C M : Type 0} → World S C M → Moved S C M
idles w = record { world = w; kind = Idle; rejections = []; passes = [] }

-- a turn that waits, for room, for a message, or for the other members of a conversation
abbrev pub waits : {S C M : Type 0} → World S C M → Moved S C M
waits w = record { world = w; kind = Wait; rejections = []; passes = [] }

-- a turn that was taken, with no rejection
abbrev pub took : {S C M : Type 0} → World S C M → Moved S C M
took w = record { world = w; kind = Took; rejections = []; passes = [] }

-- a turn that ended in rejections, which are told of it
abbrev pub undone : {S C M : Type 0} → Happened S C M → Moved S C M
undone (w, events) = record { world = w; kind = Undone; rejections = events; passes = [] }

-- a turn in which the test line of a conversation was passed
abbrev pub passed : {S C M : Type 0} → Event → World S C M → Moved S C M
passed event w = record { world = w; kind = Took; rejections = []; passes = event ∷ [] }

-- at most this many levels of one process are open
abbrev pub most_levels : ℕ
most_levels = MOST_OPEN_LEVELS

-- a trap rejects the innermost level, or fails a process without one
abbrev pub trapped : {S C M : Type 0} → Kind S C M → ℕ → Cause → World S C M → Moved S C M
trapped k p cause w = undone (reject k p (length (process_levels w p)) cause w)

-- Entry. The level's recovery point has the start of the alternate next, and the entry turn among its kept turns. (1974)
abbrev pub new_level : {S C M : Type 0} → Kind S C M → Facts → ℕ → S → Level C
new_level k facts alternate s = record { facts = facts; alternate = alternate; used = 0; copy = k.copy s }

-- the process has a new level inside all others, whose recovery point is set at the entry (1974)
abbrev pub opened : {S C M : Type 0} → Kind S C M → ℕ → Facts → ℕ → Process S C → World S C M → S × M → World S C M
opened k p facts alternate q w (s, m) =
    with_memory m (with_process p (λ _. goes_on k s (q.levels ++ new_level k facts alternate s ∷ [])) w)

-- an entry at this alternate: the turn joins the kept turns, and a level is opened
abbrev pub open_at : {S C M : Type 0} → Kind S C M → ℕ → ℕ → Facts → ℕ → Process S C → World S C M → Moved S C M
open_at k t p facts alternate q w = took (opened k p facts alternate q w (k.keep t 0 (k.enter q.state) w.memory))

-- a member enters at the conversation's present alternate, unless that is broken for good
abbrev pub join : {S C M : Type 0} → Kind S C M → ℕ → ℕ → Facts → Process S C → World S C M → Option Talk → Moved S C M
join k t p facts q w None = waits w
join k t p facts q w (Some talk) =
    cond talk.is_broken (undone (with_process p (fallen k Broken) w, [])) (open_at k t p facts talk.alternate q w)

-- an `ensure` begins with its first alternate (1974); a `converse` joins its conversation (Randell 1975)
abbrev pub enter_either : {S C M : Type 0} → Kind S C M → ℕ → ℕ → Facts → Option ℕ → Process S C → World S C M → Moved S C M
enter_either k t p facts None q w = open_at k t p facts 1 q w
enter_either k t p facts (Some c) q w = join k t p facts q w (talk_at w c)

-- an entry, which is a trap where the most levels are open already
abbrev pub enters : {S C M : Type 0} → Kind S C M → ℕ → ℕ → Facts → Process S C → World S C M → Moved S C M
enters k t p facts q w =
    cond (nat_le most_levels (length q.levels)) (trapped k p Depth w) (enter_either k t p facts facts.conversation q w)

-- A step that went on is kept, with its alternate if it started one.
abbrev pub moved_to : {S C M : Type 0} → Kind S C M → ℕ → List (Level C) → World S C M → S × M → World S C M
moved_to k p levels w (s, m) = with_memory m (with_process p (λ _. settled k s levels) w)

-- the innermost level is one of this conversation.
abbrev pub is_last_of : {C : Type 0} → ℕ → Option (Level C) → Bool
is_last_of c None = false
is_last_of c (Some level) = is_of c level

-- a process stands at the test line of a conversation, where it has passed its own acceptance test
abbrev pub stands_at : {S C : Type 0} → ℕ → Process S C → Bool
stands_at c q = q.at_line && is_last_of c (last_of q.levels)

-- the same of a process that may not exist
abbrev pub stands_there : {S C : Type 0} → ℕ → Option (Process S C) → Bool
stands_there c None = false
stands_there c (Some q) = stands_at c q

-- the declared members of a conversation, and none where there is no conversation
abbrev pub members_of : Option Membership → List ℕ
members_of None = []
members_of (Some group) = group.members

-- every declared member of conversation c stands at its test line
abbrev pub all_stand : {S C M : Type 0} → Kind S C M → ℕ → World S C M → Bool
all_stand k c w = list_all (λ m. stands_there c (slice_get w.processes m)) (members_of (slice_get k.groups c))

-- a member at the test line leaves, and goes on without its level.
abbrev pub leaves : {S C M : Type 0} → Kind S C M → ℕ → Process S C → Process S C
leaves k c q = cond (stands_at c q) (settled k (k.accept q.state) (without_last q.levels)) q

-- the alternate that a conversation is at, and 1 where there is no conversation
abbrev pub alternate_of : Option Talk → ℕ
alternate_of None = 1
alternate_of (Some talk) = talk.alternate

-- all members leave conversation c together (Randell 1975)
abbrev pub all_leave : {S C M : Type 0} → Kind S C M → ℕ → World S C M → World S C M
all_leave k c w = with_talks (change_at c first_again) (with_each (leaves k c) w)

-- a member came to the test line, which is passed once all members stand there
abbrev pub at_test_line : {S C M : Type 0} → Kind S C M → ℕ → World S C M → Moved S C M
at_test_line k c w = cond (all_stand k c w) (passed (Pass c (alternate_of (talk_at w c))) (all_leave k c w)) (took w)

-- a process that stands at the test line of its innermost level
abbrev pub stands_now : {S C : Type 0} → S → List (Level C) → Process S C
stands_now s levels = record { state = s; levels = levels; at_line = true; status = Running }

-- An acceptance test held. A private level goes, with its recovery point; a member stands at the test line.
-- (1974, for members Randell 1975)
abbrev pub accepted_at : {S C M : Type 0} → Kind S C M → ℕ → List (Level C) → Option ℕ → World S C M → S × M → Moved S C M
accepted_at k p levels None w (s, m) =
    took (with_memory m (with_process p (λ _. settled k (k.accept s) (without_last levels)) w))
accepted_at k p levels (Some c) w (s, m) =
    at_test_line k c (with_memory m (with_process p (λ _. stands_now s levels) w))

-- the acceptance test of the innermost level held; without a level the turn waits
abbrev pub accepted : {S C M : Type 0} → Kind S C M → ℕ → List (Level C) → Option (Level C) → World S C M → S × M → Moved S C M
accepted k p levels None w sm = waits w
accepted k p levels (Some level) w sm = accepted_at k p levels level.facts.conversation w sm

-- what a step comes to in the world: a trap rejects, a step that went on is kept, a test that held is accepted
abbrev pub stepped : {S C M : Type 0} → Kind S C M → ℕ → ℕ → ℕ → List (Level C) → World S C M → Stepped S M → Moved S C M
stepped k t p alternate levels w (Trapped cause) = trapped k p cause w
stepped k t p alternate levels w (Went s m) = took (moved_to k p levels w (k.keep t alternate s m))
stepped k t p alternate levels w (Held s) = accepted k p levels (last_of levels) w (k.keep t alternate s w.memory)

-- the alternate that a level tries, and 0 without a level
abbrev pub tried_at : {C : Type 0} → Option (Level C) → ℕ
tried_at None = 0
tried_at (Some level) = level.alternate

-- a step at an alternate, which is 0 for all but a start; with the message that it takes
abbrev pub steps : {S C M : Type 0} → Kind S C M → ℕ → ℕ → ℕ → Option ℤ → Process S C → World S C M → Moved S C M
steps k t p alternate message q w =
    stepped k t p alternate q.levels w (k.step alternate (copy_of (last_of q.levels)) q.state message w.memory)

-- a receipt takes the message that is there, and waits without one
abbrev pub receives : {S C M : Type 0} → Kind S C M → ℕ → ℕ → Process S C → World S C M → Option ℤ → Moved S C M
receives k t p q w None = waits w
receives k t p q w (Some v) = steps k t p 0 (Some v) q w

-- what stands first decides
abbrev pub acts : {S C M : Type 0} → Kind S C M → ℕ → ℕ → Process S C → World S C M → Want → Moved S C M
acts k t p q w NothingLeft = idles w
acts k t p q w (SendsOn c) = cond (has_room k w c) (steps k t p 0 None q w) (waits w)
acts k t p q w (ReceivesOn c) = receives k t p q w (message_there k w c)
acts k t p q w (MayReceiveOn c) = steps k t p 0 (message_there k w c) q w
acts k t p q w (Enters facts) = enters k t p facts q w
acts k t p q w Starts = steps k t p (tried_at (last_of q.levels)) None q w
acts k t p q w Acts = steps k t p 0 None q w

-- a level has used one turn more.
abbrev pub one_used : {C : Type 0} → Level C → Level C
one_used level = record { facts = level.facts; alternate = level.alternate; used = level.used + 1; copy = level.copy }

-- every level of a process has used one turn more
abbrev pub turn_used : {S C : Type 0} → Process S C → Process S C
turn_used q = record { state = q.state; levels = map one_used q.levels; at_line = q.at_line; status = q.status }

-- a level has used more turns than its bound
abbrev pub is_over : {C : Type 0} → Level C → Bool
is_over level = nat_lt level.facts.bound level.used

-- the outermost level beyond its bound is rejected; else a process at a test line waits, and any other acts
abbrev pub bounded : {S C M : Type 0} → Kind S C M → ℕ → ℕ → Process S C → World S C M → Option ℕ → Moved S C M
bounded k t p q w (Some j) = undone (reject k p (j + 1) Overrun w)
bounded k t p q w None = cond q.at_line (waits w) (acts k t p q w (k.want q.state))

-- a turn of a running process whose levels have counted it
abbrev pub runs : {S C M : Type 0} → Kind S C M → ℕ → ℕ → Process S C → World S C M → Moved S C M
runs k t p q w = bounded k t p q (with_process p (λ _. q) w) (position is_over q.levels)

-- a running process runs; one that is done or has failed idles
abbrev pub by_status : {S C M : Type 0} → Kind S C M → ℕ → ℕ → Process S C → World S C M → ProcessStatus → Moved S C M
by_status k t p q w Running = runs k t p (turn_used q) w
by_status k t p q w Finished = idles w
by_status k t p q w (FailedWith cause) = idles w

-- a turn of a process that may not exist; without one it idles
abbrev pub moves : {S C M : Type 0} → Kind S C M → ℕ → ℕ → World S C M → Option (Process S C) → Moved S C M
moves k t p w None = idles w
moves k t p w (Some q) = by_status k t p q w q.status

-- the turn number t of process p, before held lines are released
abbrev pub move : {S C M : Type 0} → Kind S C M → ℕ → ℕ → World S C M → Moved S C M
move k t p w = moves k t p w (slice_get w.processes p)

-- what a process prints, which is all that it holds if it has no level.
abbrev pub lines_freed : {S C M : Type 0} → Kind S C M → S → List (Level C) → List (List ℕ)
lines_freed k s [] = k.held s
lines_freed k s (l ∷ ls) = []

-- the state of a process once these lines were printed
abbrev pub state_freed : {S C M : Type 0} → Kind S C M → S → List (Level C) → S
state_freed k s [] = k.release s
state_freed k s (l ∷ ls) = s

-- a process once its held lines were released
abbrev pub freed : {S C M : Type 0} → Kind S C M → Process S C → Process S C
freed k q = record { state = state_freed k q.state q.levels; levels = q.levels; at_line = q.at_line; status = q.status }

-- the lines that each process prints at the end of a turn
abbrev pub freed_lines : {S C M : Type 0} → Kind S C M → World S C M → List (List (List ℕ))
freed_lines k w = map (λ q. lines_freed k q.state q.levels) w.processes

-- a process that ran before the turn and has failed after it is told as an error.
abbrev pub error_at : ℕ → ProcessStatus → ProcessStatus → List Event
error_at p Running (FailedWith cause) = Error p cause ∷ []
error_at p Running Running = []
error_at p Running Finished = []
error_at p Finished after = []
error_at p (FailedWith cause) after = []

-- a process that ran before the turn and has nothing left after it is told as done
abbrev pub done_at : ℕ → ProcessStatus → ProcessStatus → List Event
done_at p Running Finished = Done p ∷ []
done_at p Running Running = []
done_at p Running (FailedWith cause) = []
done_at p Finished after = []
done_at p (FailedWith cause) after = []

-- what is told of the processes from number p on, by their statuses before a turn and after it
abbrev pub compared : {S C : Type 0} → (ℕ → ProcessStatus → ProcessStatus → List Event) → ℕ → List (Process S C) → List (Process S C) → List Event
compared f p [] after = []
compared f p (q ∷ qs) [] = []
compared f p (q ∷ qs) (r ∷ rs) = f p q.status r.status ++ compared f (p + 1) qs rs

-- What a turn came to: its kind; its events, which are rejections from the inside out, errors, a pass, and who is done;
-- and the released lines of each process.
pub record Told : Type 0 where
  pub kind : TurnKind
  pub events : List Event
  pub released : List (List (List ℕ))

-- what is told of a turn, by the world before it and what it came to
abbrev pub told : {S C M : Type 0} → Kind S C M → World S C M → Moved S C M → Told
told k before moved = record {
  kind = moved.kind;
  events = moved.rejections ++ (compared error_at 0 before.processes moved.world.processes
      ++ (moved.passes ++ compared done_at 0 before.processes moved.world.processes));
  released = freed_lines k moved.world;
}

-- the end of a turn: held lines are released, and the turn is told
abbrev pub finishes : {S C M : Type 0} → Kind S C M → World S C M → Moved S C M → World S C M × Told
finishes k before moved = (with_each (freed k) moved.world, told k before moved)

-- turn number t of process p
abbrev pub turn : {S C M : Type 0} → Kind S C M → ℕ → ℕ → World S C M → World S C M × Told
turn k t p w = finishes k w (move k t p w)

-- at the opening every conversation is at alternate 1, and none is broken.
abbrev pub opening_talks : List Membership → List Talk
opening_talks groups = map (λ _. record { alternate = 1; is_broken = false }) groups

-- the opening world of processes in these states
abbrev pub opening : {S C M : Type 0} → Kind S C M → List S → M → World S C M
opening k states m = record { processes = map (λ s. settled k s []) states; talks = opening_talks k.groups; memory = m }

-- who is done before the first turn, from process number p on
abbrev pub finished_at : {S C : Type 0} → ℕ → List (Process S C) → List Event
finished_at p [] = []
finished_at p (q ∷ qs) = done_at p Running q.status ++ finished_at (p + 1) qs

-- what is told of turn 0: who is done before the first turn
abbrev pub told_at_opening : {S C M : Type 0} → World S C M → Told
told_at_opening w = record { kind = Took; events = finished_at 0 w.processes; released = [] }

-- what is told of a turn comes before what is told of the turns after it.
abbrev pub told_first : {S C M : Type 0} → Told → World S C M × List Told → World S C M × List Told
told_first one (w, all) = (w, one ∷ all)

-- a run goes on from the world that its first turn came to
abbrev pub run_on : {S C M : Type 0} → (World S C M → World S C M × List Told) → World S C M × Told → World S C M × List Told
run_on others (w, one) = told_first one (others w)

-- the run of a list of turns from a world, the first of them with number t
abbrev pub run : {S C M : Type 0} → Kind S C M → ℕ → List ℕ → World S C M → World S C M × List Told
run k t [] w = (w, [])
run k t (p ∷ ps) w = run_on (run k (t + 1) ps) (turn k t p w)
