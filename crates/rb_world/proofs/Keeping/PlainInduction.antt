-- Induction over the plain run of a record: an invariant's laws keep it over every turn, and in the last world of every plain
-- run that is not stuck. `before` holds before a turn, of the lines told so far and the world, and `after` once the turn has
-- changed the world, before lines are released.
use Rattle.std.proofs.Common.{◌≡◌, ◌⊎◌, ◌<◌, ℕ, ℤ, Bool, true, false, cond, List, [], ◌∷◌, ◌++◌, length, slice_get, Option, Some, None, refl, sym, subst, inl, inr, nat_lt, ltb-true, eqb-true, append_assoc, append-nil, ◌&&◌}
use Rattle.rb_base.specs.declared.event.Event.TheVariants.{Pass}
use Rattle.rb_world.specs.Kind.{Facts, Kind, Want, NothingLeft, SendsOn, ReceivesOn, MayReceiveOn, Enters, Starts, Acts, Stepped, Trapped, Went, Held}
use Rattle.rb_world.specs.World.{Level, ProcessStatus, Running, Finished, FailedWith, Process, World, last_of, talk_at, with_each, copy_of}
use Rattle.rb_world.specs.Channels.{has_room, message_there}
use Rattle.rb_world.specs.Turn.{Moved, Told, accepted, accepted_at, all_leave, all_stand, alternate_of, finishes, freed, freed_lines, most_levels, moved_to, open_at, opened, passed, took}
use Rattle.rb_base.specs.declared.kept.Kept.{Kept}
use Rattle.rb_world.specs.Plain.{PlainEnd, Ended, StuckAt, has_alternate, no_alternate, plain_acts, plain_moves, plain_on, plain_receives, plain_run, plain_runs, plain_stepped, plain_steps, plain_told, plain_turn, plain_turned, when}
use Rattle.rb_world.proofs.ListFacts.{first_holds, none_some, second_holds, some_same}
use Rattle.rb_world.proofs.TurnFacts.{RunsAt, IsReady, ToSend, ToReceive, ToReceiveIfThere, ToStart, ToAct, left_alone, come_to_stand}

-- the lines told so far, each with its turn, and the world
abbrev pub Plainly : Type 0 → Type 0 → Type 0 → Type 1
Plainly S C M = List (ℕ × Told) → World S C M → Type 0

-- q is the process of a kept turn, away from every line, and may step
pub record StepsPlainly {S C M : Type 0} (k : Kind S C M) (kept : Kept) (q : Process S C) (w : World S C M) (message : Option ℤ) : Type 0 where
  pub runs : RunsAt kept.process q w
  pub away : q.at_line ≡ false
  pub ready : IsReady k q w message
  pub at : ((k.want q.state ≡ Starts) × (has_alternate kept q ≡ true)) ⊎ (kept.alternate ≡ 0)

-- and that its step comes to an acceptance test that held
pub record HoldsPlainly {S C M : Type 0} (k : Kind S C M) (kept : Kept) (q : Process S C) (w : World S C M)
    (message : Option ℤ) (s : S) : Type 0 where
  pub steps : StepsPlainly k kept q w message
  pub held : k.step kept.alternate (copy_of (last_of q.levels)) q.state message w.memory ≡ Held s

pub record IsPlainInvariant {S C M : Type 0} (k : Kind S C M) (before after : Plainly S C M) : Type 0 where
  -- a test that held where there is no level changes nothing
  pub rests : (past : List (ℕ × Told)) (w : World S C M) → before past w → after past w
  pub goes : (past : List (ℕ × Told)) (kept : Kept) (q : Process S C) (w : World S C M) (message : Option ℤ) (s : S) (m : M) → before past w
      → StepsPlainly k kept q w message → k.step kept.alternate (copy_of (last_of q.levels)) q.state message w.memory ≡ Went s m
      → after past (moved_to k kept.process q.levels w (k.keep kept.turn kept.alternate s m))
  pub opens : (past : List (ℕ × Told)) (kept : Kept) (q : Process S C) (w : World S C M) (facts : Facts) → before past w
      → RunsAt kept.process q w → q.at_line ≡ false → k.want q.state ≡ Enters facts → length q.levels < most_levels → kept.alternate ≡ 0
      → after past (opened k kept.process facts 0 q w (k.keep kept.turn 0 (k.enter q.state) w.memory))
  pub accepts : (past : List (ℕ × Told)) (kept : Kept) (q : Process S C) (w : World S C M) (message : Option ℤ) (s : S) (level : Level C)
      → before past w
      → HoldsPlainly k kept q w message s → last_of q.levels ≡ Some level → level.facts.conversation ≡ None
      → after past (left_alone k kept.process q.levels w (k.keep kept.turn kept.alternate s w.memory))
  pub stands : (past : List (ℕ × Told)) (kept : Kept) (q : Process S C) (w : World S C M) (message : Option ℤ) (s : S) (level : Level C) (c : ℕ)
      → before past w
      → HoldsPlainly k kept q w message s → last_of q.levels ≡ Some level → level.facts.conversation ≡ Some c
      → all_stand k c (come_to_stand kept.process q.levels w (k.keep kept.turn kept.alternate s w.memory)) ≡ false
      → after past (come_to_stand kept.process q.levels w (k.keep kept.turn kept.alternate s w.memory))
  pub leaves : (past : List (ℕ × Told)) (kept : Kept) (q : Process S C) (w : World S C M) (message : Option ℤ) (s : S) (level : Level C) (c : ℕ)
      → before past w
      → HoldsPlainly k kept q w message s → last_of q.levels ≡ Some level → level.facts.conversation ≡ Some c
      → all_stand k c (come_to_stand kept.process q.levels w (k.keep kept.turn kept.alternate s w.memory)) ≡ true
      → after past (all_leave k c (come_to_stand kept.process q.levels w (k.keep kept.turn kept.alternate s w.memory)))
  pub releases : (past : List (ℕ × Told)) (t : ℕ) (w : World S C M) (one : Told) → after past w → one.released ≡ freed_lines k w
      → before (past ++ (t, one) ∷ []) (with_each (freed k) w)

-- where something comes of it, P holds of that
abbrev IfAny : {A : Type 0} → (A → Type 0) → Option A → Type 0
IfAny P None = Unit {0}
IfAny P (Some x) = P x

if_when : {A : Type 0} (P : A → Type 0) (b : Bool) (x : Option A) → (b ≡ true → IfAny P x) → IfAny P (when b x)
if_when P true x one = one refl
if_when P false x one = tt

if_some : {A : Type 0} (P : A → Type 0) (o : Option A) (x : A) → IfAny P o → o ≡ Some x → P x
if_some P None x h e = absurd (none_some e)
if_some P (Some y) x h e = subst P (some_same e) h

module _ {S C M : Type 0} {k : Kind S C M} {before after : Plainly S C M} (laws : IsPlainInvariant k before after) where
  -- what holds of a change
  abbrev Changed : List (ℕ × Told) → Moved S C M → Type 0
  Changed past moved = after past moved.world

  at_line-plain : (past : List (ℕ × Told)) (kept : Kept) (q : Process S C) (w : World S C M) (message : Option ℤ) (s : S)
      (level : Level C) (c : ℕ)
      → before past w
      → HoldsPlainly k kept q w message s → last_of q.levels ≡ Some level → level.facts.conversation ≡ Some c
      → (all : Bool) → all_stand k c (come_to_stand kept.process q.levels w (k.keep kept.turn kept.alternate s w.memory)) ≡ all
      → let v = come_to_stand kept.process q.levels w (k.keep kept.turn kept.alternate s w.memory) in
      after past (cond all (passed (Pass c (alternate_of (talk_at v c))) (all_leave k c v)) (took v)).world
  at_line-plain past kept q w message s level c holds at last of_c true e = laws.leaves past kept q w message s level c holds at last of_c e
  at_line-plain past kept q w message s level c holds at last of_c false e = laws.stands past kept q w message s level c holds at last of_c e

  accepted_at-plain : (past : List (ℕ × Told)) (kept : Kept) (q : Process S C) (w : World S C M) (message : Option ℤ) (s : S) (level : Level C)
      → before past w
      → HoldsPlainly k kept q w message s → last_of q.levels ≡ Some level → (conversation : Option ℕ) → level.facts.conversation ≡ conversation
      → after past (accepted_at k kept.process q.levels conversation w (k.keep kept.turn kept.alternate s w.memory)).world
  accepted_at-plain past kept q w message s level holds at last None e = laws.accepts past kept q w message s level holds at last e
  accepted_at-plain past kept q w message s level holds at last (Some c) e =
      at_line-plain past kept q w message s level c holds at last e
      (all_stand k c (come_to_stand kept.process q.levels w (k.keep kept.turn kept.alternate s w.memory))) refl

  accepted-plain : (past : List (ℕ × Told)) (kept : Kept) (q : Process S C) (w : World S C M) (message : Option ℤ) (s : S) → before past w
      → HoldsPlainly k kept q w message s → (level : Option (Level C)) → last_of q.levels ≡ level
      → after past (accepted k kept.process q.levels level w (k.keep kept.turn kept.alternate s w.memory)).world
  accepted-plain past kept q w message s holds at None e = laws.rests past w holds
  accepted-plain past kept q w message s holds at (Some level) e =
      accepted_at-plain past kept q w message s level holds at e level.facts.conversation refl

  stepped-plain : (past : List (ℕ × Told)) (kept : Kept) (q : Process S C) (w : World S C M) (message : Option ℤ) → before past w
      → StepsPlainly k kept q w message → (result : Stepped S M)
      → k.step kept.alternate (copy_of (last_of q.levels)) q.state message w.memory ≡ result
      → IfAny (Changed past) (plain_stepped k kept q.levels w result)
  stepped-plain past kept q w message holds at (Trapped cause) e = tt
  stepped-plain past kept q w message holds at (Went s m) e = laws.goes past kept q w message s m holds at e
  stepped-plain past kept q w message holds at (Held s) e =
      accepted-plain past kept q w message s holds (record { steps = at; held = e }) (last_of q.levels) refl

  steps-plain : (past : List (ℕ × Told)) (kept : Kept) (q : Process S C) (w : World S C M) (message : Option ℤ) → before past w
      → StepsPlainly k kept q w message → IfAny (Changed past) (plain_steps k kept message q w)
  steps-plain past kept q w message holds at =
      stepped-plain past kept q w message holds at (k.step kept.alternate (copy_of (last_of q.levels)) q.state message w.memory) refl

  receives-plain : (past : List (ℕ × Told)) (kept : Kept) (q : Process S C) (w : World S C M) (c : ℕ) → before past w
      → RunsAt kept.process q w → q.at_line ≡ false → k.want q.state ≡ ReceivesOn c → kept.alternate ≡ 0
      → (message : Option ℤ) → message_there k w c ≡ message → IfAny (Changed past) (plain_receives k kept q w message)
  receives-plain past kept q w c holds runs away e none None there = tt
  receives-plain past kept q w c holds runs away e none (Some v) there =
      steps-plain past kept q w (Some v) holds (record { runs = runs; away = away; ready = ToReceive c v e there refl; at = inr none })

  acts-plain : (past : List (ℕ × Told)) (kept : Kept) (q : Process S C) (w : World S C M) → before past w
      → RunsAt kept.process q w → q.at_line ≡ false
      → (want : Want) → k.want q.state ≡ want → IfAny (Changed past) (plain_acts k kept q w want)
  acts-plain past kept q w holds runs away NothingLeft e = tt
  acts-plain past kept q w holds runs away (SendsOn c) e =
      if_when (Changed past) (no_alternate kept && has_room k w c) (plain_steps k kept None q w)
      (λ b. steps-plain past kept q w None holds
      (record {
        runs = runs;
        away = away;
        ready = ToSend c e (second_holds (no_alternate kept) (has_room k w c) b) refl;
        at = inr (eqb-true kept.alternate 0 (first_holds (no_alternate kept) (has_room k w c) b));
      }))
  acts-plain past kept q w holds runs away (ReceivesOn c) e =
      if_when (Changed past) (no_alternate kept) (plain_receives k kept q w (message_there k w c))
      (λ b. receives-plain past kept q w c holds runs away e (eqb-true kept.alternate 0 b) (message_there k w c) refl)
  acts-plain past kept q w holds runs away (MayReceiveOn c) e =
      if_when (Changed past) (no_alternate kept) (plain_steps k kept (message_there k w c) q w)
      (λ b. steps-plain past kept q w (message_there k w c) holds
      (record { runs = runs; away = away; ready = ToReceiveIfThere c e refl; at = inr (eqb-true kept.alternate 0 b) }))
  acts-plain past kept q w holds runs away (Enters facts) e =
      if_when (Changed past) (no_alternate kept && nat_lt (length q.levels) most_levels) (Some (open_at k kept.turn kept.process facts 0 q w))
      (λ b. laws.opens past kept q w facts holds runs away e
      (ltb-true (length q.levels) most_levels (second_holds (no_alternate kept) (nat_lt (length q.levels) most_levels) b))
      (eqb-true kept.alternate 0 (first_holds (no_alternate kept) (nat_lt (length q.levels) most_levels) b)))
  acts-plain past kept q w holds runs away Starts e =
      if_when (Changed past) (has_alternate kept q) (plain_steps k kept None q w)
      (λ b. steps-plain past kept q w None holds (record { runs = runs; away = away; ready = ToStart e refl; at = inl (e, b) }))
  acts-plain past kept q w holds runs away Acts e =
      if_when (Changed past) (no_alternate kept) (plain_steps k kept None q w)
      (λ b. steps-plain past kept q w None holds (record { runs = runs; away = away; ready = ToAct e refl; at = inr (eqb-true kept.alternate 0 b) }))

  away-plain : (past : List (ℕ × Told)) (kept : Kept) (q : Process S C) (w : World S C M) → before past w → RunsAt kept.process q w
      → (line : Bool) → q.at_line ≡ line → IfAny (Changed past) (cond line None (plain_acts k kept q w (k.want q.state)))
  away-plain past kept q w holds runs true e = tt
  away-plain past kept q w holds runs false e = acts-plain past kept q w holds runs e (k.want q.state) refl

  runs-plain : (past : List (ℕ × Told)) (kept : Kept) (q : Process S C) (w : World S C M) → before past w
      → slice_get w.processes kept.process ≡ Some q
      → (status : ProcessStatus) → q.status ≡ status → IfAny (Changed past) (plain_runs k kept q w status)
  runs-plain past kept q w holds there Running e = away-plain past kept q w holds (record { there = there; running = e }) q.at_line refl
  runs-plain past kept q w holds there Finished e = tt
  runs-plain past kept q w holds there (FailedWith cause) e = tt

  moves-plain : (past : List (ℕ × Told)) (kept : Kept) (w : World S C M) → before past w
      → (q : Option (Process S C)) → slice_get w.processes kept.process ≡ q → IfAny (Changed past) (plain_moves k kept w q)
  moves-plain past kept w holds None e = tt
  moves-plain past kept w holds (Some q) e = runs-plain past kept q w holds e q.status refl

  turned-plain : (past : List (ℕ × Told)) (t : ℕ) (w : World S C M) (moved : Option (Moved S C M)) → IfAny (Changed past) moved
      → IfAny (λ (x : World S C M × Told). before (past ++ (t, x.1) ∷ []) x.0) (plain_turned k w moved)
  turned-plain past t w None h = tt
  turned-plain past t w (Some moved) h = laws.releases past t moved.world (finishes k w moved).1 h refl

  -- one turn of a record
  pub plain_turn-keeps : (past : List (ℕ × Told)) (kept : Kept) (w : World S C M) (x : World S C M × Told) → before past w
      → plain_turn k kept w ≡ Some x
      → before (past ++ (kept.turn, x.1) ∷ []) x.0
  plain_turn-keeps past kept w x holds e =
      if_some (λ (y : World S C M × Told). before (past ++ (kept.turn, y.1) ∷ []) y.0) (plain_turn k kept w) x
      (turned-plain past kept.turn w (plain_moves k kept w (slice_get w.processes kept.process))
      (moves-plain past kept w holds (slice_get w.processes kept.process) refl)) e

  -- what holds of an end
  abbrev IfEnds : List (ℕ × Told) → PlainEnd S C M → Type 0
  IfEnds past (Ended v lines) = before (past ++ lines) v
  IfEnds past (StuckAt t) = Unit {0}

  told-plain : (past : List (ℕ × Told)) (t : ℕ) (one : Told) (end : PlainEnd S C M) → IfEnds (past ++ (t, one) ∷ []) end
      → IfEnds past (plain_told t one end)
  told-plain past t one (Ended v lines) h =
      subst (λ (all : List (ℕ × Told)). before all v) (append_assoc past ((t, one) ∷ []) lines) h
  told-plain past t one (StuckAt u) h = tt

  on-plain : (past : List (ℕ × Told)) (t : ℕ) (turned : Option (World S C M × Told)) (others : World S C M → PlainEnd S C M)
      → ((x : World S C M × Told) → turned ≡ Some x → IfEnds (past ++ (t, x.1) ∷ []) (others x.0)) → IfEnds past (plain_on t turned others)
  on-plain past t None others rest = tt
  on-plain past t (Some x) others rest = told-plain past t x.1 (others x.0) (rest x refl)

  run-plain : (past : List (ℕ × Told)) (turns : List Kept) (w : World S C M) → before past w → IfEnds past (plain_run k turns w)
  run-plain past [] w holds = subst (λ (all : List (ℕ × Told)). before all w) (sym (append-nil past)) holds
  run-plain past (kept ∷ turns) w holds =
      on-plain past kept.turn (plain_turn k kept w) (plain_run k turns)
      (λ x e. run-plain (past ++ (kept.turn, x.1) ∷ []) turns x.0 (plain_turn-keeps past kept w x holds e))

  -- the plain run of a record
  pub plain_run-keeps : (past : List (ℕ × Told)) (turns : List Kept) (w v : World S C M) (lines : List (ℕ × Told)) → before past w
      → plain_run k turns w ≡ Ended v lines → before (past ++ lines) v
  plain_run-keeps past turns w v lines holds e = subst (IfEnds past) e (run-plain past turns w holds)
