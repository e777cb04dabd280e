-- What a turn comes to, with its rejections and its pass. There are ten outcomes, each with what is known there; what holds of
-- each of them holds of every turn.
use Rattle.std.proofs.Common.{◌≡◌, ◌≤◌, ◌<◌, ℕ, ℤ, suc, Bool, true, false, cond, List, [], ◌∷◌, length, option_map, position, slice_get, Option, Some, None, refl, sym, ap, ◌∙◌, subst, nat_le, add-one, suc-ne-zero, arith}
use Rattle.std.proofs.lemmas.List.Quantifiers.{position-Some}
use Rattle.rb_base.specs.declared.event.Cause.{Cause}
use Rattle.rb_base.specs.declared.event.Cause.TheVariants.{Broken, Depth, Overrun}
use Rattle.rb_base.specs.declared.event.Event.TheVariants.{Pass}
use Rattle.rb_world.specs.Kind.{Facts, Kind, Want, NothingLeft, SendsOn, ReceivesOn, MayReceiveOn, Enters, Starts, Acts, Stepped, Trapped, Went, Held}
use Rattle.rb_world.specs.World.{Level, ProcessStatus, Running, Finished, FailedWith, Process, Talk, World, last_of, levels_of, talk_at, with_process, copy_of}
use Rattle.rb_world.specs.Channels.{has_room, message_there}
use Rattle.rb_world.specs.Reject.{fallen, reject}
use Rattle.rb_world.specs.Turn.{Moved, accepted, accepted_at, acts, alternate_of, all_leave, all_stand, bounded, by_status, enter_either, idles, is_over, join, most_levels, move, moved_to, moves, opened, passed, receives, runs, stepped, steps, took, trapped, tried_at, turn_used, undone, waits}
use Rattle.rb_world.proofs.TurnFacts.{RunsAt, come_to_stand, left_alone}
use Rattle.rb_world.proofs.ListFacts.{none_some, slice_get-change_at}

-- the world once p's turn was counted at each of its levels
abbrev pub counted : {S C M : Type 0} → ℕ → Process S C → World S C M → World S C M
counted p q w = with_process p (λ _. turn_used q) w

-- A predicate of what a turn of p comes to, at each outcome. Everywhere but at `idle` q is p in the world before the turn, and
-- runs.
pub record Outcomes {S C M : Type 0} (k : Kind S C M) (p : ℕ) (w : World S C M) (P : Moved S C M → Type 0) : Type 0 where
  pub idle : P (idles w)
  pub rested : (q : Process S C) → RunsAt p q w → P (idles (counted p q w))
  pub waited : (q : Process S C) → RunsAt p q w → P (waits (counted p q w))
  pub went : (q : Process S C) (s : S) (m : M) → RunsAt p q w → P (took (moved_to k p (turn_used q).levels (counted p q w) (s, m)))
  pub entered : (q : Process S C) (facts : Facts) (alternate : ℕ) (s : S) (m : M) → RunsAt p q w
      → P (took (opened k p facts alternate (turn_used q) (counted p q w) (s, m)))
  pub accepts : (q : Process S C) (level : Level C) (s : S) (m : M) → RunsAt p q w
      → last_of (turn_used q).levels ≡ Some level → level.facts.conversation ≡ None
      → P (took (left_alone k p (turn_used q).levels (counted p q w) (s, m)))
  pub stands : (q : Process S C) (s : S) (m : M) → RunsAt p q w
      → P (took (come_to_stand p (turn_used q).levels (counted p q w) (s, m)))
  pub passes : (q : Process S C) (level : Level C) (c alternate : ℕ) (s : S) (m : M) → RunsAt p q w
      → last_of (turn_used q).levels ≡ Some level → level.facts.conversation ≡ Some c
      → all_stand k c (come_to_stand p (turn_used q).levels (counted p q w) (s, m)) ≡ true
      → P (passed (Pass c alternate) (all_leave k c (come_to_stand p (turn_used q).levels (counted p q w) (s, m))))
  pub barred : (q : Process S C) (facts : Facts) (c : ℕ) (talk : Talk) → RunsAt p q w
      → q.at_line ≡ false → k.want q.state ≡ Enters facts → facts.conversation ≡ Some c → talk_at w c ≡ Some talk → talk.is_broken ≡ true
      → P (undone (with_process p (fallen k Broken) (counted p q w), []))
  pub rejects : (q : Process S C) (n : ℕ) (cause : Cause) → RunsAt p q w
      → n ≤ length (turn_used q).levels → (n ≡ 0 → length (turn_used q).levels ≡ 0)
      → P (undone (reject k p n cause (counted p q w)))

-- what is found stands within the list
pub position_within : {A : Type 0} (test : A → Bool) (xs : List A) (j : ℕ) → position test xs ≡ Some j → j < length xs
position_within test [] j e = absurd (none_some e)
position_within test (x ∷ xs) j e = (position-Some test (x ∷ xs) j x e).0

module _ {S C M : Type 0} {k : Kind S C M} {p : ℕ} {w : World S C M} {P : Moved S C M → Type 0} (laws : Outcomes k p w P) where
  -- a trap rejects from the innermost level
  trapped-comes : (q : Process S C) (cause : Cause) → RunsAt p q w → P (trapped k p cause (counted p q w))
  trapped-comes q cause runs =
      subst (λ (o : Option (Process S C)). P (undone (reject k p (length (levels_of o)) cause (counted p q w))))
      (sym (slice_get-change_at p (λ _. turn_used q) w.processes ∙ ap (option_map (λ _. turn_used q)) runs.there))
      (laws.rejects q (length (turn_used q).levels) cause runs (omega arith) (λ e. e))

  -- the line of a conversation, once a member has come to it
  at_test_line-comes : (q : Process S C) (level : Level C) (c alternate : ℕ) (s : S) (m : M) → RunsAt p q w
      → last_of (turn_used q).levels ≡ Some level → level.facts.conversation ≡ Some c
      → (all : Bool) → all_stand k c (come_to_stand p (turn_used q).levels (counted p q w) (s, m)) ≡ all
      → let v = come_to_stand p (turn_used q).levels (counted p q w) (s, m) in
      P (cond all (passed (Pass c alternate) (all_leave k c v)) (took v))
  at_test_line-comes q level c alternate s m runs last of_c true e = laws.passes q level c alternate s m runs last of_c e
  at_test_line-comes q level c alternate s m runs last of_c false e = laws.stands q s m runs

  accepted_at-comes : (q : Process S C) (level : Level C) (sm : S × M) → RunsAt p q w
      → last_of (turn_used q).levels ≡ Some level → (conversation : Option ℕ) → level.facts.conversation ≡ conversation
      → P (accepted_at k p (turn_used q).levels conversation (counted p q w) sm)
  accepted_at-comes q level sm runs last None e = laws.accepts q level sm.0 sm.1 runs last e
  accepted_at-comes q level sm runs last (Some c) e =
      let v : World S C M = come_to_stand p (turn_used q).levels (counted p q w) sm in
      at_test_line-comes q level c (alternate_of (talk_at v c)) sm.0 sm.1 runs last e (all_stand k c v) refl

  accepted-comes : (q : Process S C) (sm : S × M) → RunsAt p q w → (level : Option (Level C)) → last_of (turn_used q).levels ≡ level
      → P (accepted k p (turn_used q).levels level (counted p q w) sm)
  accepted-comes q sm runs None e = laws.waited q runs
  accepted-comes q sm runs (Some level) e = accepted_at-comes q level sm runs e level.facts.conversation refl

  -- what a step comes to
  stepped-comes : (t : ℕ) (q : Process S C) (alternate : ℕ) → RunsAt p q w → (result : Stepped S M)
      → P (stepped k t p alternate (turn_used q).levels (counted p q w) result)
  stepped-comes t q alternate runs (Trapped cause) = trapped-comes q cause runs
  stepped-comes t q alternate runs (Went s m) = laws.went q (k.keep t alternate s m).0 (k.keep t alternate s m).1 runs
  stepped-comes t q alternate runs (Held s) = accepted-comes q (k.keep t alternate s w.memory) runs (last_of (turn_used q).levels) refl

  steps-comes : (t : ℕ) (q : Process S C) (alternate : ℕ) (message : Option ℤ) → RunsAt p q w
      → P (steps k t p alternate message (turn_used q) (counted p q w))
  steps-comes t q alternate message runs =
      stepped-comes t q alternate runs (k.step alternate (copy_of (last_of (turn_used q).levels)) q.state message w.memory)

  -- a receipt, and a send
  receives-comes : (t : ℕ) (q : Process S C) → RunsAt p q w → (message : Option ℤ) → P (receives k t p (turn_used q) (counted p q w) message)
  receives-comes t q runs None = laws.waited q runs
  receives-comes t q runs (Some v) = steps-comes t q 0 (Some v) runs

  sends-comes : (t : ℕ) (q : Process S C) → RunsAt p q w → (room : Bool)
      → P (cond room (steps k t p 0 None (turn_used q) (counted p q w)) (waits (counted p q w)))
  sends-comes t q runs true = steps-comes t q 0 None runs
  sends-comes t q runs false = laws.waited q runs

  -- an entry
  open-comes : (t : ℕ) (q : Process S C) (facts : Facts) (alternate : ℕ) → RunsAt p q w
      → P (took (opened k p facts alternate (turn_used q) (counted p q w) (k.keep t 0 (k.enter q.state) w.memory)))
  open-comes t q facts alternate runs =
      let sm : S × M = k.keep t 0 (k.enter q.state) w.memory in laws.entered q facts alternate sm.0 sm.1 runs

  join-comes : (t : ℕ) (q : Process S C) (facts : Facts) (c : ℕ) → RunsAt p q w → q.at_line ≡ false → k.want q.state ≡ Enters facts
      → facts.conversation ≡ Some c → (talk : Talk) → talk_at w c ≡ Some talk → (broken : Bool) → talk.is_broken ≡ broken
      → P (join k t p facts (turn_used q) (counted p q w) (Some (record { alternate = talk.alternate; is_broken = broken })))
  join-comes t q facts c runs away wants of_c talk at true broken = laws.barred q facts c talk runs away wants of_c at broken
  join-comes t q facts c runs away wants of_c talk at false broken = open-comes t q facts talk.alternate runs

  join_some-comes : (t : ℕ) (q : Process S C) (facts : Facts) (c : ℕ) → RunsAt p q w → q.at_line ≡ false → k.want q.state ≡ Enters facts
      → facts.conversation ≡ Some c → (talk : Option Talk) → talk_at w c ≡ talk → P (join k t p facts (turn_used q) (counted p q w) talk)
  join_some-comes t q facts c runs away wants of_c None at = laws.waited q runs
  join_some-comes t q facts c runs away wants of_c (Some talk) at = join-comes t q facts c runs away wants of_c talk at talk.is_broken refl

  enter_either-comes : (t : ℕ) (q : Process S C) (facts : Facts) → RunsAt p q w → q.at_line ≡ false → k.want q.state ≡ Enters facts
      → (conversation : Option ℕ) → facts.conversation ≡ conversation
      → P (enter_either k t p facts conversation (turn_used q) (counted p q w))
  enter_either-comes t q facts runs away wants None e = open-comes t q facts 1 runs
  enter_either-comes t q facts runs away wants (Some c) e = join_some-comes t q facts c runs away wants e (talk_at w c) refl

  enters-comes : (t : ℕ) (q : Process S C) (facts : Facts) → RunsAt p q w → q.at_line ≡ false → k.want q.state ≡ Enters facts → (full : Bool)
      → P (cond full (trapped k p Depth (counted p q w)) (enter_either k t p facts facts.conversation (turn_used q) (counted p q w)))
  enters-comes t q facts runs away wants true = trapped-comes q Depth runs
  enters-comes t q facts runs away wants false = enter_either-comes t q facts runs away wants facts.conversation refl

  -- what stands first decides
  acts-comes : (t : ℕ) (q : Process S C) → RunsAt p q w → q.at_line ≡ false → (want : Want) → k.want q.state ≡ want
      → P (acts k t p (turn_used q) (counted p q w) want)
  acts-comes t q runs away NothingLeft e = laws.rested q runs
  acts-comes t q runs away (SendsOn c) e = sends-comes t q runs (has_room k (counted p q w) c)
  acts-comes t q runs away (ReceivesOn c) e = receives-comes t q runs (message_there k (counted p q w) c)
  acts-comes t q runs away (MayReceiveOn c) e = steps-comes t q 0 (message_there k (counted p q w) c) runs
  acts-comes t q runs away (Enters facts) e = enters-comes t q facts runs away e (nat_le most_levels (length (turn_used q).levels))
  acts-comes t q runs away Starts e = steps-comes t q (tried_at (last_of (turn_used q).levels)) None runs
  acts-comes t q runs away Acts e = steps-comes t q 0 None runs

  at_line-comes : (t : ℕ) (q : Process S C) → RunsAt p q w → (line : Bool) → q.at_line ≡ line
      → P (cond line (waits (counted p q w)) (acts k t p (turn_used q) (counted p q w) (k.want q.state)))
  at_line-comes t q runs true e = laws.waited q runs
  at_line-comes t q runs false e = acts-comes t q runs e (k.want q.state) refl

  over-comes : (q : Process S C) (j : ℕ) → RunsAt p q w → position is_over (turn_used q).levels ≡ Some j
      → P (undone (reject k p (suc j) Overrun (counted p q w)))
  over-comes q j runs e =
      let within : j < length (turn_used q).levels = position_within is_over (turn_used q).levels j e in
      laws.rejects q (suc j) Overrun runs (omega arith) (λ none. absurd (suc-ne-zero j none))

  bounded-comes : (t : ℕ) (q : Process S C) → RunsAt p q w → (over : Option ℕ) → position is_over (turn_used q).levels ≡ over
      → P (bounded k t p (turn_used q) (counted p q w) over)
  bounded-comes t q runs (Some j) e =
      subst (λ (n : ℕ). P (undone (reject k p n Overrun (counted p q w)))) (sym (add-one j)) (over-comes q j runs e)
  bounded-comes t q runs None e = at_line-comes t q runs q.at_line refl

  by_status-comes : (t : ℕ) (q : Process S C) → slice_get w.processes p ≡ Some q → (status : ProcessStatus) → q.status ≡ status
      → P (by_status k t p q w status)
  by_status-comes t q there Running e =
      bounded-comes t q (record { there = there; running = e }) (position is_over (turn_used q).levels) refl
  by_status-comes t q there Finished e = laws.idle
  by_status-comes t q there (FailedWith cause) e = laws.idle

  moves-comes : (t : ℕ) (q : Option (Process S C)) → slice_get w.processes p ≡ q → P (moves k t p w q)
  moves-comes t None e = laws.idle
  moves-comes t (Some q) e = by_status-comes t q e q.status refl

  -- every turn comes to one of the outcomes
  pub move-comes : (t : ℕ) → P (move k t p w)
  move-comes t = moves-comes t (slice_get w.processes p) refl
