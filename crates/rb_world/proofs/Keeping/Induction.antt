-- Induction over turns: an invariant holds after every turn, and in the last world of every run.
use Rattle.std.proofs.Common.{◌≡◌, ℕ, ℤ, ◌+◌, ◌<◌, suc, Bool, true, false, cond, List, [], ◌∷◌, ◌++◌, length, option_map, position, slice_get, Option, Some, None, refl, sym, ap, ◌∙◌, subst, nat_le, leb-false, add-one, append_assoc, append-nil, arith}
use Rattle.std.proofs.lemmas.List.{length-map}
use Rattle.rb_base.specs.declared.event.Cause.{Cause}
use Rattle.rb_base.specs.declared.event.Cause.TheVariants.{Broken, Depth, Overrun}
use Rattle.rb_base.specs.declared.event.Event.TheVariants.{Pass}
use Rattle.rb_world.specs.Kind.{Facts, Kind, Want, NothingLeft, SendsOn, ReceivesOn, MayReceiveOn, Enters, Starts, Acts, Stepped, Trapped, Went, Held}
use Rattle.rb_world.specs.World.{Level, ProcessStatus, Running, Finished, FailedWith, Process, Talk, World, last_of, levels_of, talk_at, with_process, copy_of}
use Rattle.rb_world.specs.Channels.{has_room, message_there}
use Rattle.rb_world.specs.Reject.{reject}
use Rattle.rb_world.specs.Turn.{Told, accepted, accepted_at, acts, alternate_of, all_leave, all_stand, bounded, by_status, enter_either, is_over, join, most_levels, move, moves, one_used, passed, receives, run, runs, stepped, steps, took, trapped, tried_at, turn, turn_used, waits}
use Rattle.rb_world.proofs.TurnFacts.{RunsAt, MayAct, IsReady, ToSend, ToReceive, ToReceiveIfThere, ToStart, ToAct, alternate_for, StepsAt, Alone, Joining, Barred, come_to_stand}
use Rattle.rb_world.proofs.Keeping.Invariant.{Between, Within, IsInvariant}
use Rattle.rb_world.proofs.ListFacts.{slice_get-change_at}
use Rattle.rb_world.proofs.Keeping.CascadeKeeps.{reject-keeps}

module _ {S C M : Type 0} {k : Kind S C M} {before : Between S C M} {during : Within S C M} {after : Between S C M}
    (laws : IsInvariant k before during after) where
  -- a trap rejects from the innermost level
  trapped-keeps : (t : ℕ) (past : List Told) (p : ℕ) (q : Process S C) (w : World S C M) (cause : Cause)
      → during t past p (length q.levels) w → RunsAt p q w → after t past (trapped k p cause w).world
  trapped-keeps t past p q w cause holds runs =
      subst (λ (o : Option (Process S C)). after t past (reject k p (length (levels_of o)) cause w).0) (sym runs.there)
      (reject-keeps laws t past p (length q.levels) cause q w holds runs)

  -- the line of a conversation, once a member has come to it
  at_test_line-keeps : (t : ℕ) (past : List Told) (p : ℕ) (q : Process S C) (w : World S C M) (alternate : ℕ)
      (message : Option ℤ) (s : S) (level : Level C) (c : ℕ)
      → during t past p (length q.levels) w → StepsAt k p q w alternate message
      → k.step alternate (copy_of (last_of q.levels)) q.state message w.memory ≡ Held s
      → last_of q.levels ≡ Some level → level.facts.conversation ≡ Some c
      → (all : Bool) → all_stand k c (come_to_stand p q.levels w (k.keep t alternate s w.memory)) ≡ all
      → let v = come_to_stand p q.levels w (k.keep t alternate s w.memory) in
      after t past (cond all (passed (Pass c (alternate_of (talk_at v c))) (all_leave k c v)) (took v)).world
  at_test_line-keeps t past p q w alternate message s level c holds at went last of_c true e =
      laws.leaves t past p q w alternate message s level c holds at went last of_c e
  at_test_line-keeps t past p q w alternate message s level c holds at went last of_c false e =
      laws.stands t past p q w alternate message s level c holds at went last of_c e

  accepted_at-keeps : (t : ℕ) (past : List Told) (p : ℕ) (q : Process S C) (w : World S C M) (alternate : ℕ)
      (message : Option ℤ) (s : S) (level : Level C)
      → during t past p (length q.levels) w → StepsAt k p q w alternate message
      → k.step alternate (copy_of (last_of q.levels)) q.state message w.memory ≡ Held s
      → last_of q.levels ≡ Some level → (conversation : Option ℕ) → level.facts.conversation ≡ conversation
      → after t past (accepted_at k p q.levels conversation w (k.keep t alternate s w.memory)).world
  accepted_at-keeps t past p q w alternate message s level holds at went last None e =
      laws.accepts t past p q w alternate message s level holds at went last e
  accepted_at-keeps t past p q w alternate message s level holds at went last (Some c) e =
      at_test_line-keeps t past p q w alternate message s level c holds at went last e
      (all_stand k c (come_to_stand p q.levels w (k.keep t alternate s w.memory))) refl

  accepted-keeps : (t : ℕ) (past : List Told) (p : ℕ) (q : Process S C) (w : World S C M) (alternate : ℕ) (message : Option ℤ) (s : S)
      → during t past p (length q.levels) w → StepsAt k p q w alternate message
      → k.step alternate (copy_of (last_of q.levels)) q.state message w.memory ≡ Held s
      → (level : Option (Level C)) → last_of q.levels ≡ level
      → after t past (accepted k p q.levels level w (k.keep t alternate s w.memory)).world
  accepted-keeps t past p q w alternate message s holds at went None e =
      laws.waits t past p q w holds at.acts.runs at.acts.none_over
  accepted-keeps t past p q w alternate message s holds at went (Some level) e =
      accepted_at-keeps t past p q w alternate message s level holds at went e level.facts.conversation refl

  -- what a step comes to
  stepped-keeps : (t : ℕ) (past : List Told) (p : ℕ) (q : Process S C) (w : World S C M) (alternate : ℕ) (message : Option ℤ)
      → during t past p (length q.levels) w → StepsAt k p q w alternate message
      → (result : Stepped S M) → k.step alternate (copy_of (last_of q.levels)) q.state message w.memory ≡ result
      → after t past (stepped k t p alternate q.levels w result).world
  stepped-keeps t past p q w alternate message holds at (Trapped cause) e =
      trapped-keeps t past p q w cause holds at.acts.runs
  stepped-keeps t past p q w alternate message holds at (Went s m) e =
      laws.goes t past p q w alternate message s m holds at e
  stepped-keeps t past p q w alternate message holds at (Held s) e =
      accepted-keeps t past p q w alternate message s holds at e (last_of q.levels) refl

  steps-keeps : (t : ℕ) (past : List Told) (p : ℕ) (q : Process S C) (w : World S C M) (alternate : ℕ) (message : Option ℤ)
      → during t past p (length q.levels) w → StepsAt k p q w alternate message
      → after t past (steps k t p alternate message q w).world
  steps-keeps t past p q w alternate message holds at =
      stepped-keeps t past p q w alternate message holds at (k.step alternate (copy_of (last_of q.levels)) q.state message w.memory) refl

  steps_for : (p : ℕ) (q : Process S C) (w : World S C M) (message : Option ℤ) (want : Want) → MayAct p q w → k.want q.state ≡ want
      → IsReady k q w message → StepsAt k p q w (alternate_for want (last_of q.levels)) message
  steps_for p q w message want may e ready = record {
    acts = may;
    ready = ready;
    at = ap (λ (x : Want). alternate_for x (last_of q.levels)) (sym e);
  }

  -- a receipt
  receives-keeps : (t : ℕ) (past : List Told) (p : ℕ) (q : Process S C) (w : World S C M) (c : ℕ)
      → during t past p (length q.levels) w → MayAct p q w → k.want q.state ≡ ReceivesOn c
      → (message : Option ℤ) → message_there k w c ≡ message → after t past (receives k t p q w message).world
  receives-keeps t past p q w c holds may e None there = laws.waits t past p q w holds may.runs may.none_over
  receives-keeps t past p q w c holds may e (Some v) there =
      steps-keeps t past p q w 0 (Some v) holds (steps_for p q w (Some v) (ReceivesOn c) may e (ToReceive c v e there refl))

  sends-keeps : (t : ℕ) (past : List Told) (p : ℕ) (q : Process S C) (w : World S C M) (c : ℕ)
      → during t past p (length q.levels) w → MayAct p q w → k.want q.state ≡ SendsOn c
      → (room : Bool) → has_room k w c ≡ room → after t past (cond room (steps k t p 0 None q w) (waits w)).world
  sends-keeps t past p q w c holds may e true there =
      steps-keeps t past p q w 0 None holds (steps_for p q w None (SendsOn c) may e (ToSend c e there refl))
  sends-keeps t past p q w c holds may e false there = laws.waits t past p q w holds may.runs may.none_over

  -- an entry
  join-keeps : (t : ℕ) (past : List Told) (p : ℕ) (q : Process S C) (w : World S C M) (facts : Facts) (c : ℕ)
      → during t past p (length q.levels) w → MayAct p q w → k.want q.state ≡ Enters facts → length q.levels < most_levels
      → facts.conversation ≡ Some c → (talk : Talk) → talk_at w c ≡ Some talk → (broken : Bool) → talk.is_broken ≡ broken
      → after t past (join k t p facts q w (Some (record { alternate = talk.alternate; is_broken = broken }))).world
  join-keeps t past p q w facts c holds may e few of_c talk at true broken =
      laws.falls t past p q w (length q.levels) Broken holds may.runs (Barred facts c talk may.away e of_c at broken refl refl)
  join-keeps t past p q w facts c holds may e few of_c talk at false whole =
      laws.opens t past p q w facts talk.alternate holds
      (record { acts = may; wants = e; few = few; entry = Joining c talk of_c at whole refl })

  join_some-keeps : (t : ℕ) (past : List Told) (p : ℕ) (q : Process S C) (w : World S C M) (facts : Facts) (c : ℕ)
      → during t past p (length q.levels) w → MayAct p q w → k.want q.state ≡ Enters facts → length q.levels < most_levels
      → facts.conversation ≡ Some c → (talk : Option Talk) → talk_at w c ≡ talk → after t past (join k t p facts q w talk).world
  join_some-keeps t past p q w facts c holds may e few of_c None at = laws.waits t past p q w holds may.runs may.none_over
  join_some-keeps t past p q w facts c holds may e few of_c (Some talk) at =
      join-keeps t past p q w facts c holds may e few of_c talk at talk.is_broken refl

  enter_either-keeps : (t : ℕ) (past : List Told) (p : ℕ) (q : Process S C) (w : World S C M) (facts : Facts)
      → during t past p (length q.levels) w → MayAct p q w → k.want q.state ≡ Enters facts → length q.levels < most_levels
      → (conversation : Option ℕ) → facts.conversation ≡ conversation → after t past (enter_either k t p facts conversation q w).world
  enter_either-keeps t past p q w facts holds may e few None alone =
      laws.opens t past p q w facts 1 holds (record { acts = may; wants = e; few = few; entry = Alone alone refl })
  enter_either-keeps t past p q w facts holds may e few (Some c) of_c =
      join_some-keeps t past p q w facts c holds may e few of_c (talk_at w c) refl

  enters-keeps : (t : ℕ) (past : List Told) (p : ℕ) (q : Process S C) (w : World S C M) (facts : Facts)
      → during t past p (length q.levels) w → MayAct p q w → k.want q.state ≡ Enters facts
      → (full : Bool) → nat_le most_levels (length q.levels) ≡ full
      → after t past (cond full (trapped k p Depth w) (enter_either k t p facts facts.conversation q w)).world
  enters-keeps t past p q w facts holds may e true full = trapped-keeps t past p q w Depth holds may.runs
  enters-keeps t past p q w facts holds may e false few =
      enter_either-keeps t past p q w facts holds may e (leb-false most_levels (length q.levels) few) facts.conversation refl

  -- what stands first decides
  acts-keeps : (t : ℕ) (past : List Told) (p : ℕ) (q : Process S C) (w : World S C M)
      → during t past p (length q.levels) w → MayAct p q w
      → (want : Want) → k.want q.state ≡ want → after t past (acts k t p q w want).world
  acts-keeps t past p q w holds may NothingLeft e = laws.waits t past p q w holds may.runs may.none_over
  acts-keeps t past p q w holds may (SendsOn c) e = sends-keeps t past p q w c holds may e (has_room k w c) refl
  acts-keeps t past p q w holds may (ReceivesOn c) e = receives-keeps t past p q w c holds may e (message_there k w c) refl
  acts-keeps t past p q w holds may (MayReceiveOn c) e =
      steps-keeps t past p q w 0 (message_there k w c) holds
      (steps_for p q w (message_there k w c) (MayReceiveOn c) may e (ToReceiveIfThere c e refl))
  acts-keeps t past p q w holds may (Enters facts) e =
      enters-keeps t past p q w facts holds may e (nat_le most_levels (length q.levels)) refl
  acts-keeps t past p q w holds may Starts e =
      steps-keeps t past p q w (tried_at (last_of q.levels)) None holds (steps_for p q w None Starts may e (ToStart e refl))
  acts-keeps t past p q w holds may Acts e =
      steps-keeps t past p q w 0 None holds (steps_for p q w None Acts may e (ToAct e refl))

  at_line-keeps : (t : ℕ) (past : List Told) (p : ℕ) (q : Process S C) (w : World S C M)
      → during t past p (length q.levels) w → RunsAt p q w → position is_over q.levels ≡ None
      → (line : Bool) → q.at_line ≡ line → after t past (cond line (waits w) (acts k t p q w (k.want q.state))).world
  at_line-keeps t past p q w holds runs none true e = laws.waits t past p q w holds runs none
  at_line-keeps t past p q w holds runs none false e =
      acts-keeps t past p q w holds (record { runs = runs; away = e; none_over = none }) (k.want q.state) refl

  bounded-keeps : (t : ℕ) (past : List Told) (p : ℕ) (q : Process S C) (w : World S C M)
      → during t past p (length q.levels) w → RunsAt p q w
      → (over : Option ℕ) → position is_over q.levels ≡ over → after t past (bounded k t p q w over).world
  bounded-keeps t past p q w holds runs (Some j) e =
      subst (λ (n : ℕ). after t past (reject k p n Overrun w).0) (sym (add-one j))
      (reject-keeps laws t past p (suc j) Overrun q w (laws.overruns t past p q w j holds runs e) runs)
  bounded-keeps t past p q w holds runs None e = at_line-keeps t past p q w holds runs e q.at_line refl

  by_status-keeps : (t : ℕ) (past : List Told) (p : ℕ) (q : Process S C) (w : World S C M)
      → before t past w → slice_get w.processes p ≡ Some q
      → (status : ProcessStatus) → q.status ≡ status → after t past (by_status k t p q w status).world
  by_status-keeps t past p q w holds there Running e =
      bounded-keeps t past p (turn_used q) (with_process p (λ _. turn_used q) w)
      (subst (λ (n : ℕ). during t past p n (with_process p (λ _. turn_used q) w)) (sym (length-map q.levels one_used))
      (laws.uses t past p q w holds (record { there = there; running = e })))
      (record { there = slice_get-change_at p (λ _. turn_used q) w.processes ∙ ap (option_map (λ _. turn_used q)) there; running = e })
      (position is_over (turn_used q).levels) refl
  by_status-keeps t past p q w holds there Finished e = laws.rests t past w holds
  by_status-keeps t past p q w holds there (FailedWith cause) e = laws.rests t past w holds

  moves-keeps : (t : ℕ) (past : List Told) (p : ℕ) (w : World S C M) → before t past w
      → (q : Option (Process S C)) → slice_get w.processes p ≡ q → after t past (moves k t p w q).world
  moves-keeps t past p w holds None e = laws.rests t past w holds
  moves-keeps t past p w holds (Some q) e = by_status-keeps t past p q w holds e q.status refl

  -- what a turn comes to, before lines are released
  pub move-keeps : (t : ℕ) (past : List Told) (p : ℕ) (w : World S C M) → before t past w → after t past (move k t p w).world
  move-keeps t past p w holds = moves-keeps t past p w holds (slice_get w.processes p) refl

  -- one turn
  pub turn-keeps : (t : ℕ) (past : List Told) (p : ℕ) (w : World S C M) → before t past w
      → before (t + 1) (past ++ (turn k t p w).1 ∷ []) (turn k t p w).0
  turn-keeps t past p w holds =
      laws.releases t past (move k t p w).world (turn k t p w).1 (move-keeps t past p w holds) refl

  -- a whole run
  pub run-keeps : (t : ℕ) (past : List Told) (turns : List ℕ) (w : World S C M) → before t past w
      → before (t + length turns) (past ++ (run k t turns w).1) (run k t turns w).0
  run-keeps t past [] w holds =
      subst (λ (n : ℕ). before n (past ++ []) w) (omega arith) (subst (λ (all : List Told). before t all w) (sym (append-nil past)) holds)
  run-keeps t past (p ∷ turns) w holds =
      let v : World S C M × Told = turn k t p w in
      let others : World S C M × List Told = run k (t + 1) turns v.0 in
      subst (λ (n : ℕ). before n (past ++ v.1 ∷ others.1) others.0) (omega arith)
      (subst (λ (all : List Told). before (t + 1 + length turns) all others.0) (append_assoc past (v.1 ∷ []) others.1)
      (run-keeps (t + 1) (past ++ v.1 ∷ []) turns v.0 (turn-keeps t past p w holds)))
