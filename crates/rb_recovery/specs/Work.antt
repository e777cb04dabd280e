-- The work of a turn, in ticks, one for each word that is read or written: what a turn of the word machine may cost a machine that copies
-- nothing. An entry that is kept costs nothing, however many words a copy would have.
use Rattle.std.specs.Prelude.{ℕ, ◌+◌, ◌*◌, ◌-◌, ◌≤◌, ℤ, Bool, true, false, cond, ◌&&◌, List, [], ◌∷◌, position, slice_get, sum_by, Option, Some, None}
use Rattle.rb_base.specs.declared.event.Event.{Event}
use Rattle.rb_base.specs.declared.event.Event.TheVariants.{Reject, RejectAll, Error, Pass, Done}
use Rattle.rb_base.specs.declared.event.TurnKind.{TurnKind}
use Rattle.rb_base.specs.declared.event.TurnKind.TheVariants.{Idle, Wait, Took, Undone}
use Rattle.rb_world.specs.Channels.{has_room, message_there}
use Rattle.rb_world.specs.Kind.{Membership, Stepped, Trapped, Went, Held, Want, NothingLeft, SendsOn, ReceivesOn, MayReceiveOn, Enters, Starts, Acts}
use Rattle.rb_world.specs.Turn.{Moved, all_stand, freed_lines, is_over, move, stands_at, stands_now, tried_at, turn, turn_used}
use Rattle.rb_world.specs.World.{Level, Process, ProcessStatus, Running, Finished, FailedWith, copy_of, is_inside, last_of, with_process, without_last}
use Rattle.rb_cache.specs.Copies.{accepted}
use Rattle.rb_code.specs.Instructions.Plain.{Code}
use Rattle.rb_code.specs.WordMachine.Turn.{Common, Copy, Standing, step, want}
use Rattle.rb_code.specs.WordMachine.WordKind.{kept, word_kind}
use Rattle.rb_code.specs.WordMachine.WordRun.{WordWorld}
use Rattle.rb_proc.specs.Work.{named_by_step, named_settling}
use Rattle.rb_recoverable.specs.Touched.{places_touched}

-- the words that are named on the way to the next turn of a process whose innermost level goes by acceptance
abbrev pub named_leaving : Code → Standing → List (Level Copy) → ℕ
named_leaving c s levels = named_settling c (record s { touched = accepted s.touched }) (without_last levels)

-- the same of a member that stands at the test line of conversation x, which is passed
abbrev pub named_by_member : Code → ℕ → Process Standing Copy → ℕ
named_by_member c x q = cond (stands_at x q) (named_leaving c q.state q.levels) 0

-- The words that the instructions of a turn name: those of its step, and those on the way to the next turn of whoever loses a level in it.
module _ (c : Code) (groups : List Membership) where
  -- of all members, where they all stand at the test line
  abbrev pub named_at_line : ℕ → WordWorld → ℕ
  named_at_line x w = cond (all_stand (word_kind c groups) x w) (sum_by (named_by_member c x) w.processes) 0

  -- where an acceptance test of process p held
  abbrev pub named_accepted_at : ℕ → List (Level Copy) → Option ℕ → WordWorld → Standing → ℕ
  named_accepted_at p levels None w s = named_leaving c s levels
  named_accepted_at p levels (Some x) w s = named_at_line x (with_process p (λ _. stands_now s levels) w)

  abbrev pub named_accepted : ℕ → List (Level Copy) → Option (Level Copy) → WordWorld → Standing → ℕ
  named_accepted p levels None w s = 0
  named_accepted p levels (Some level) w s = named_accepted_at p levels level.facts.conversation w s

  -- by what a step came to, in turn number t
  abbrev pub named_behind : ℕ → ℕ → ℕ → List (Level Copy) → WordWorld → Stepped Standing Common → ℕ
  named_behind t p alternate levels w (Trapped cause) = 0
  named_behind t p alternate levels w (Went s m) = 0
  named_behind t p alternate levels w (Held s) = named_accepted p levels (last_of levels) w (kept t alternate s w.memory).0

  -- of a step, with the message that it takes
  abbrev pub named_by_steps : ℕ → ℕ → ℕ → Option ℤ → Process Standing Copy → WordWorld → ℕ
  named_by_steps t p alternate message q w =
      named_by_step c alternate (copy_of (last_of q.levels)) q.state message w.memory.slots
      + named_behind t p alternate q.levels w (step c alternate (copy_of (last_of q.levels)) q.state message w.memory)

  abbrev pub named_by_receipt : ℕ → ℕ → Process Standing Copy → WordWorld → Option ℤ → ℕ
  named_by_receipt t p q w None = 0
  named_by_receipt t p q w (Some v) = named_by_steps t p 0 (Some v) q w

  -- by what stands first in process p
  abbrev pub named_by_acts : ℕ → ℕ → Process Standing Copy → WordWorld → Want → ℕ
  named_by_acts t p q w NothingLeft = 0
  named_by_acts t p q w (SendsOn channel) = cond (has_room (word_kind c groups) w channel) (named_by_steps t p 0 None q w) 0
  named_by_acts t p q w (ReceivesOn channel) = named_by_receipt t p q w (message_there (word_kind c groups) w channel)
  named_by_acts t p q w (MayReceiveOn channel) = named_by_steps t p 0 (message_there (word_kind c groups) w channel) q w
  named_by_acts t p q w (Enters facts) = 0
  named_by_acts t p q w Starts = named_by_steps t p (tried_at (last_of q.levels)) None q w
  named_by_acts t p q w Acts = named_by_steps t p 0 None q w

  -- a turn in which a level is over its bound, or a process waits at its line, carries no instruction out
  abbrev pub named_within : ℕ → ℕ → Process Standing Copy → WordWorld → Option ℕ → ℕ
  named_within t p q w (Some j) = 0
  named_within t p q w None = cond q.at_line 0 (named_by_acts t p q w (want c q.state))

  abbrev pub named_running : ℕ → ℕ → Process Standing Copy → WordWorld → ℕ
  named_running t p q w = named_within t p q (with_process p (λ _. q) w) (position is_over q.levels)

  abbrev pub named_by_status : ℕ → ℕ → Process Standing Copy → WordWorld → ProcessStatus → ℕ
  named_by_status t p q w Running = named_running t p (turn_used q) w
  named_by_status t p q w Finished = 0
  named_by_status t p q w (FailedWith cause) = 0

  abbrev pub named_there : ℕ → ℕ → WordWorld → Option (Process Standing Copy) → ℕ
  named_there t p w None = 0
  named_there t p w (Some q) = named_by_status t p q w q.status

  -- of turn number t, of process p
  abbrev pub named_in_turn : ℕ → ℕ → WordWorld → ℕ
  named_in_turn t p w = named_there t p w (slice_get w.processes p)

-- how many places are touched in the open levels of these processes
abbrev pub touched_by : Process Standing Copy → ℕ
touched_by q = places_touched q.state.touched

abbrev pub touched_in : List (Process Standing Copy) → ℕ
touched_in processes = sum_by touched_by processes

-- how many of these processes are inside a conversation
abbrev pub inside_one : ℕ → Process Standing Copy → ℕ
inside_one x q = cond (is_inside x q) 1 0

abbrev pub inside : ℕ → List (Process Standing Copy) → ℕ
inside x processes = sum_by (inside_one x) processes

-- how many levels of these processes an event puts back: a rejection that of its process, or one of each that is inside the conversation
abbrev pub put_back_by : List (Process Standing Copy) → Event → ℕ
put_back_by processes (Reject p line alternate cause) = 1
put_back_by processes (RejectAll x alternate by cause) = inside x processes
put_back_by processes (Error p cause) = 0
put_back_by processes (Pass x alternate) = 0
put_back_by processes (Done p) = 0

abbrev pub levels_put_back : List (Process Standing Copy) → List Event → ℕ
levels_put_back processes events = sum_by (put_back_by processes) events

-- how many touched places a turn that ends in rejections puts back, by how many are touched before and after it
abbrev pub places_put_back : TurnKind → ℕ → ℕ → ℕ
places_put_back Idle before after = 0
places_put_back Wait before after = 0
places_put_back Took before after = 0
places_put_back Undone before after = before - after

-- what going back costs: one tick for each touched place, and four for each level
abbrev pub undoing : TurnKind → List (Process Standing Copy) → List Event → List (Process Standing Copy) → ℕ
undoing kind before rejections after = places_put_back kind (touched_in before) (touched_in after) + 4 * levels_put_back before rejections

-- These events of rejections have come to others, and to other processes: what is no longer touched, and four ticks for each level that they
-- put back, pay for the ticks.
abbrev pub Undoes : ℕ → ℕ → List (Process Standing Copy) → List Event → List (Process Standing Copy) → List Event → Type 0
Undoes ticks ticks' before events after events' =
    ticks' + touched_in after + 4 * levels_put_back before events ≤ ticks + touched_in before + 4 * levels_put_back before events'

-- whether a turn is an entry that is kept
abbrev pub is_entry : Want → Bool
is_entry (Enters facts) = true
is_entry NothingLeft = false
is_entry (SendsOn channel) = false
is_entry (ReceivesOn channel) = false
is_entry (MayReceiveOn channel) = false
is_entry Starts = false
is_entry Acts = false

abbrev pub is_kept : TurnKind → Bool
is_kept Idle = false
is_kept Wait = false
is_kept Took = true
is_kept Undone = false

abbrev pub enters_there : Code → TurnKind → Option (Process Standing Copy) → Bool
enters_there c kind None = false
enters_there c kind (Some q) = is_entry (want c q.state) && is_kept kind

-- looking at the process itself costs four, but for such an entry
abbrev pub looking : Bool → ℕ
looking entry = cond entry 0 4

-- how many processes release lines
abbrev pub releases_some : List (List ℕ) → ℕ
releases_some [] = 0
releases_some (line ∷ lines) = 1

abbrev pub releasing : List (List (List ℕ)) → ℕ
releasing released = sum_by releases_some released

-- the work of a move, without what is released behind it
abbrev pub move_work : Code → List Membership → ℕ → ℕ → WordWorld → Moved Standing Copy Common → ℕ
move_work c groups t p w moved =
    looking (enters_there c moved.kind (slice_get w.processes p)) + 3 * named_in_turn c groups t p w
    + undoing moved.kind w.processes moved.rejections moved.world.processes

-- The work of turn number t, of process p: three ticks for each word that its instructions name, one for each touched place that it puts
-- back, four for each level that it puts back, four for p itself, and four for each process that releases lines.
abbrev pub turn_work : Code → List Membership → ℕ → ℕ → WordWorld → ℕ
turn_work c groups t p w =
    move_work c groups t p w (move (word_kind c groups) t p w)
    + 4 * releasing (freed_lines (word_kind c groups) (move (word_kind c groups) t p w).world)

-- the work of the turns of a list, numbered from t
abbrev pub turns_work : Code → List Membership → ℕ → List ℕ → WordWorld → ℕ
turns_work c groups t [] w = 0
turns_work c groups t (p ∷ ps) w = turn_work c groups t p w + turns_work c groups (t + 1) ps (turn (word_kind c groups) t p w).0
