-- A turn that takes nothing back and passes no test line touches no process but its own.
use Rattle.std.proofs.Common.{◌≡◌, ℕ, zero, suc, ◌+◌, ℤ, Bool, true, false, cond, List, [], ◌∷◌, ◌++◌, length, position, Option, Some, None, slice_get, refl}
use Rattle.std.specs.Prelude.{nat_le}
use Rattle.rb_base.specs.declared.event.Cause.{Cause}
use Rattle.rb_base.specs.declared.event.Cause.TheVariants.{Overrun, Depth, Broken}
use Rattle.rb_base.specs.declared.event.Event.{Event}
use Rattle.rb_base.specs.declared.event.Event.TheVariants.{Pass}
use Rattle.rb_base.specs.declared.event.TurnKind.{TurnKind}
use Rattle.rb_world.specs.Channels.{has_room, message_there}
use Rattle.rb_world.specs.Kind.{Facts, Kind, Want, NothingLeft, SendsOn, ReceivesOn, MayReceiveOn, Enters, Starts, Acts, Stepped, Trapped, Went, Held}
use Rattle.rb_world.specs.Reject.{Happened, fallen, reject}
use Rattle.rb_world.specs.Turn.{Moved, accepted, accepted_at, acts, all_leave, all_stand, alternate_of, at_test_line, bounded, by_status, enter_either, enters, is_over, join, most_levels, move, moved_to, moves, new_level, open_at, opened, passed, receives, runs, stands_now, stepped, steps, took, trapped, tried_at, turn_used, undone, waits}
use Rattle.rb_world.specs.World.{Level, Process, ProcessStatus, Running, Finished, FailedWith, Talk, World, change_at, copy_of, goes_on, last_of, process_levels, settled, talk_at, with_memory, with_process, without_last}
use Rattle.rb_machine.specs.Telling.{SameBut, is_alone}

-- a list is like itself
pub same_all : {A : Type 0} (p : ℕ) (xs : List A) → SameBut p xs xs
same_all p [] = tt
same_all zero (x ∷ xs) = refl
same_all (suc p) (x ∷ xs) = (refl, same_all p xs)

-- a change at the number makes no difference
pub same_changed : {A : Type 0} (p : ℕ) (f : A → A) (xs ys : List A) → SameBut p xs ys → SameBut p xs (change_at p f ys)
same_changed p f [] [] h = tt
same_changed p f [] (y ∷ ys) h = absurd h
same_changed p f (x ∷ xs) [] h = absurd h
same_changed zero f (x ∷ xs) (y ∷ ys) h = h
same_changed (suc p) f (x ∷ xs) (y ∷ ys) h = (h.0, same_changed p f xs ys h.1)

no_truth : false ≡ true → ⊥
no_truth e = cc

-- such a turn passed none
pub no_passes : (kind : TurnKind) (passes : List Event) → is_alone kind passes ≡ true → passes ≡ []
no_passes kind [] alone = refl
no_passes kind (pass ∷ passes) alone = absurd (no_truth alone)

module _ {S C M : Type 0} (k : Kind S C M) (t p : ℕ) (before : List (Process S C)) where
  abbrev So : World S C M → Type 0
  So w = SameBut p before w.processes

  abbrev Alone : Moved S C M → Type 0
  Alone moved = is_alone moved.kind moved.passes ≡ true → So moved.world

  either : (b : Bool) (one other : Moved S C M) → Alone one → Alone other → Alone (cond b one other)
  either true one other h i = h
  either false one other h i = i

  changed_so : (q : Process S C) (w : World S C M) → So w → So (with_process p (λ _. q) w)
  changed_so q w h = same_changed p (λ _. q) before w.processes h

  undone_so : (happened : Happened S C M) → Alone (undone happened)
  undone_so (w, events) e = absurd (no_truth e)

  trapped_so : (cause : Cause) (w : World S C M) → Alone (trapped k p cause w)
  trapped_so cause w = undone_so (reject k p (length (process_levels w p)) cause w)

  opened_so : (facts : Facts) (alternate : ℕ) (q : Process S C) (w : World S C M) (after : S × M) → So w → So (opened k p facts alternate q w after)
  opened_so facts alternate q w (s, m) h = changed_so (goes_on k s (q.levels ++ new_level k facts alternate s ∷ [])) w h

  open_so : (facts : Facts) (alternate : ℕ) (q : Process S C) (w : World S C M) → So w → Alone (open_at k t p facts alternate q w)
  open_so facts alternate q w h e = opened_so facts alternate q w (k.keep t 0 (k.enter q.state) w.memory) h

  join_so : (facts : Facts) (q : Process S C) (w : World S C M) (talk : Option Talk) → So w → Alone (join k t p facts q w talk)
  join_so facts q w None h = λ _. h
  join_so facts q w (Some talk) h =
      either talk.is_broken (undone (with_process p (fallen k Broken) w, [])) (open_at k t p facts talk.alternate q w)
      (undone_so (with_process p (fallen k Broken) w, [])) (open_so facts talk.alternate q w h)

  entered_so : (facts : Facts) (conversation : Option ℕ) (q : Process S C) (w : World S C M) → So w
      → Alone (enter_either k t p facts conversation q w)
  entered_so facts None q w h = open_so facts 1 q w h
  entered_so facts (Some c) q w h = join_so facts q w (talk_at w c) h

  enters_so : (facts : Facts) (q : Process S C) (w : World S C M) → So w → Alone (enters k t p facts q w)
  enters_so facts q w h =
      either (nat_le most_levels (length q.levels)) (trapped k p Depth w) (enter_either k t p facts facts.conversation q w)
      (trapped_so Depth w) (entered_so facts facts.conversation q w h)

  line_so : (c : ℕ) (w : World S C M) → So w → Alone (at_test_line k c w)
  line_so c w h =
      either (all_stand k c w) (passed (Pass c (alternate_of (talk_at w c))) (all_leave k c w)) (took w) (λ e. absurd (no_truth e)) (λ _. h)

  accepted_at_so : (levels : List (Level C)) (conversation : Option ℕ) (w : World S C M) (after : S × M) → So w
      → Alone (accepted_at k p levels conversation w after)
  accepted_at_so levels None w (s, m) h = λ _. changed_so (settled k (k.accept s) (without_last levels)) w h
  accepted_at_so levels (Some c) w (s, m) h =
      line_so c (with_memory m (with_process p (λ _. stands_now s levels) w)) (changed_so (stands_now s levels) w h)

  accepted_so : (levels : List (Level C)) (level : Option (Level C)) (w : World S C M) (after : S × M) → So w
      → Alone (accepted k p levels level w after)
  accepted_so levels None w after h = λ _. h
  accepted_so levels (Some level) w after h = accepted_at_so levels level.facts.conversation w after h

  moved_so : (levels : List (Level C)) (w : World S C M) (after : S × M) → So w → So (moved_to k p levels w after)
  moved_so levels w (s, m) h = changed_so (settled k s levels) w h

  stepped_so : (alternate : ℕ) (levels : List (Level C)) (w : World S C M) (came : Stepped S M) → So w
      → Alone (stepped k t p alternate levels w came)
  stepped_so alternate levels w (Trapped cause) h = trapped_so cause w
  stepped_so alternate levels w (Went s m) h = λ _. moved_so levels w (k.keep t alternate s m) h
  stepped_so alternate levels w (Held s) h = accepted_so levels (last_of levels) w (k.keep t alternate s w.memory) h

  steps_so : (alternate : ℕ) (message : Option ℤ) (q : Process S C) (w : World S C M) → So w → Alone (steps k t p alternate message q w)
  steps_so alternate message q w h =
      stepped_so alternate q.levels w (k.step alternate (copy_of (last_of q.levels)) q.state message w.memory) h

  receives_so : (message : Option ℤ) (q : Process S C) (w : World S C M) → So w → Alone (receives k t p q w message)
  receives_so None q w h = λ _. h
  receives_so (Some v) q w h = steps_so 0 (Some v) q w h

  acts_so : (want : Want) (q : Process S C) (w : World S C M) → So w → Alone (acts k t p q w want)
  acts_so NothingLeft q w h = λ _. h
  acts_so (SendsOn c) q w h = either (has_room k w c) (steps k t p 0 None q w) (waits w) (steps_so 0 None q w h) (λ _. h)
  acts_so (ReceivesOn c) q w h = receives_so (message_there k w c) q w h
  acts_so (MayReceiveOn c) q w h = steps_so 0 (message_there k w c) q w h
  acts_so (Enters facts) q w h = enters_so facts q w h
  acts_so Starts q w h = steps_so (tried_at (last_of q.levels)) None q w h
  acts_so Acts q w h = steps_so 0 None q w h

  bounded_so : (over : Option ℕ) (q : Process S C) (w : World S C M) → So w → Alone (bounded k t p q w over)
  bounded_so (Some j) q w h = undone_so (reject k p (j + 1) Overrun w)
  bounded_so None q w h = either q.at_line (waits w) (acts k t p q w (k.want q.state)) (λ _. h) (acts_so (k.want q.state) q w h)

  runs_so : (q : Process S C) (w : World S C M) → So w → Alone (runs k t p q w)
  runs_so q w h = bounded_so (position is_over q.levels) q (with_process p (λ _. q) w) (changed_so q w h)

  by_status_so : (status : ProcessStatus) (q : Process S C) (w : World S C M) → So w → Alone (by_status k t p q w status)
  by_status_so Running q w h = runs_so (turn_used q) w h
  by_status_so Finished q w h = λ _. h
  by_status_so (FailedWith cause) q w h = λ _. h

  moves_so : (there : Option (Process S C)) (w : World S C M) → So w → Alone (moves k t p w there)
  moves_so None w h = λ _. h
  moves_so (Some q) w h = by_status_so q.status q w h

-- so it is of every turn
pub moves_alone : {S C M : Type 0} (k : Kind S C M) (t p : ℕ) (w : World S C M) → is_alone (move k t p w).kind (move k t p w).passes ≡ true
    → SameBut p w.processes (move k t p w).world.processes
moves_alone k t p w = moves_so k t p w.processes (slice_get w.processes p) w (same_all p w.processes)
