-- Related kinds take the plain run of a record alike: both are stuck at one turn, or both end in related worlds and told the
-- same.
use Rattle.std.proofs.Common.{◌≡◌, ◌⊎◌, ℕ, ℤ, Bool, true, false, cond, List, [], ◌∷◌, length, slice_get, Option, Some, None, refl, sym, ap, ap₂, subst, inl, inr, true≢false, nat_le, nat_lt, eqb-true, ◌&&◌}
use Rattle.rb_world.specs.Kind.{Facts, Kind, Want, NothingLeft, SendsOn, ReceivesOn, MayReceiveOn, Enters, Starts, Acts, Stepped, Trapped, Went, Held}
use Rattle.rb_world.specs.World.{Level, ProcessStatus, Running, Finished, FailedWith, Process, World, last_of}
use Rattle.rb_world.specs.Channels.{has_room, message_there}
use Rattle.rb_world.specs.Turn.{Moved, Told, most_levels}
use Rattle.rb_base.specs.declared.kept.Kept.{Kept}
use Rattle.rb_world.specs.Plain.{PlainEnd, Ended, StuckAt, alternates_of, has_alternate, no_alternate, plain_acts, plain_moves, plain_on, plain_receives, plain_run, plain_runs, plain_stepped, plain_steps, plain_told, plain_turn, plain_turned, when}
use Rattle.rb_world.proofs.ListFacts.{first_holds, second_holds}
use Rattle.rb_world.proofs.TurnFacts.{RunsAt, IsReady, ToSend, ToReceive, ToReceiveIfThere, ToStart, ToAct}
use Rattle.rb_world.proofs.Relating.Simulation.{Shared, Related, Knowing, nothing_known, copies_of, IsActing, StepsMeet, IsPlainSimulation}
use Rattle.rb_world.proofs.Relating.MarksMeet.{OptionsMeet, SameMark, SameMarks, copies-last, last_marks, same_length}
use Rattle.rb_world.proofs.Relating.ProcessesMeet.{ProcessesMeet, WorldsMeet, get_meets}
use Rattle.rb_world.proofs.Relating.ChannelsMeet.{has_room-same, message_there-same}
use Rattle.rb_world.proofs.Relating.StepsMeetWorlds.{MovesMeet, accepted_meets, away_states, moved_to_meets, open_at_meets, took_meets}
use Rattle.rb_world.proofs.Relating.TurnsMeet.{TurnsMeet, finishes_meet}

-- what is known of the process of a kept turn
abbrev pub KnowsKept : {S C M : Type 0} → Knowing S C M → Kept → World S C M → Type 0
KnowsKept {S} {C} known kept w = (q : Process S C) → RunsAt kept.process q w → q.at_line ≡ false → known kept.turn kept.process q w

when_meets : {A B : Type 0} (R : A → B → Type 0) (b d : Bool) (x : Option A) (y : Option B) → b ≡ d → (b ≡ true → OptionsMeet R x y)
    → OptionsMeet R (when b x) (when d y)
when_meets R true true x y e one = one refl
when_meets R true false x y e one = absurd (true≢false e)
when_meets R false true x y e one = absurd (true≢false (sym e))
when_meets R false false x y e one = tt

alternates_same : {C D : Type 0} (x : Option (Level C)) (y : Option (Level D)) → OptionsMeet SameMark x y → alternates_of x ≡ alternates_of y
alternates_same None None e = refl
alternates_same None (Some y) e = absurd e
alternates_same (Some x) None e = absurd e
alternates_same (Some x) (Some y) e = ap (λ (facts : Facts). facts.alternates) e.facts

module _ {S C M T D N : Type 0} {k : Kind S C M} {l : Kind T D N} {shared : Shared M N} {related : Related S C M T D N} {known : Knowing S C M}
    (laws : IsPlainSimulation k l shared related known) where
  plain_stepped_meets : (kept : Kept) (w : World S C M) (v : World T D N) (ls : List (Level C)) (ms : List (Level D))
      (x : Stepped S M) (y : Stepped T N)
      → StepsMeet k l shared related kept.turn kept.process kept.alternate w v.memory (copies_of ls) (copies_of ms) x y
      → SameMarks ls ms → WorldsMeet shared related w v
      → OptionsMeet (MovesMeet shared related) (plain_stepped k kept ls w x) (plain_stepped l kept ms v y)
  plain_stepped_meets kept w v ls ms (Trapped c) (Trapped d) e same meets = tt
  plain_stepped_meets kept w v ls ms (Trapped c) (Went u n) e same meets = absurd e
  plain_stepped_meets kept w v ls ms (Trapped c) (Held u) e same meets = absurd e
  plain_stepped_meets kept w v ls ms (Went s m) (Trapped d) e same meets = absurd e
  plain_stepped_meets kept w v ls ms (Went s m) (Went u n) e same meets =
      let a = k.keep kept.turn kept.alternate s m in
      let b = l.keep kept.turn kept.alternate u n in
      took_meets _ _ (moved_to_meets laws kept.process w v a.1 b.1 a.0 ls b.0 ms e same meets)
  plain_stepped_meets kept w v ls ms (Went s m) (Held u) e same meets = absurd e
  plain_stepped_meets kept w v ls ms (Held s) (Trapped d) e same meets = absurd e
  plain_stepped_meets kept w v ls ms (Held s) (Went u n) e same meets = absurd e
  plain_stepped_meets kept w v ls ms (Held s) (Held u) e same meets =
      let a = k.keep kept.turn kept.alternate s w.memory in
      let b = l.keep kept.turn kept.alternate u v.memory in
      accepted_meets laws kept.process w v a.1 b.1 a.0 ls b.0 ms (last_of ls) (last_of ms) e same (last_marks ls ms same) meets

  module _ (kept : Kept) (q : Process S C) (w : World S C M) (r : Process T D) (v : World T D N)
      (may : IsActing known kept.turn kept.process q w) (both : ProcessesMeet related w.memory v.memory q r)
      (meets : WorldsMeet shared related w v) where
    plain_steps_meet : (message : Option ℤ) → IsReady k q w message → (k.want q.state ≡ Starts) ⊎ (kept.alternate ≡ 0)
        → OptionsMeet (MovesMeet shared related) (plain_steps k kept message q w) (plain_steps l kept message r v)
    plain_steps_meet message ready at =
        subst (λ (x : Option C). OptionsMeet (MovesMeet shared related)
        (plain_stepped k kept q.levels w (k.step kept.alternate x q.state message w.memory))
        (plain_steps l kept message r v))
        (sym (copies-last q.levels))
        (subst (λ (y : Option D). OptionsMeet (MovesMeet shared related)
        (plain_stepped k kept q.levels w (k.step kept.alternate (last_of (copies_of q.levels)) q.state message w.memory))
        (plain_stepped l kept r.levels v (l.step kept.alternate y r.state message v.memory)))
        (sym (copies-last r.levels))
        (plain_stepped_meets kept w v q.levels r.levels _ _
        (laws.step kept.turn kept.process q w kept.alternate message v.memory (copies_of r.levels) r.state may ready at meets.memories
        (away_states laws kept.turn kept.process q w r v may both meets)) both.marks meets))

    no_start : no_alternate kept ≡ true → (k.want q.state ≡ Starts) ⊎ (kept.alternate ≡ 0)
    no_start e = inr (eqb-true kept.alternate 0 e)

    plain_receives_meet : (c : ℕ) → k.want q.state ≡ ReceivesOn c → no_alternate kept ≡ true → (message : Option ℤ) → message_there k w c ≡ message
        → OptionsMeet (MovesMeet shared related) (plain_receives k kept q w message) (plain_receives l kept r v message)
    plain_receives_meet c wants none None there = tt
    plain_receives_meet c wants none (Some x) there = plain_steps_meet (Some x) (ToReceive c x wants there refl) (no_start none)

    plain_acts_meet : (want : Want) → k.want q.state ≡ want
        → OptionsMeet (MovesMeet shared related) (plain_acts k kept q w want) (plain_acts l kept r v want)
    plain_acts_meet NothingLeft wants = tt
    plain_acts_meet (SendsOn c) wants =
        when_meets (MovesMeet shared related) (no_alternate kept && has_room k w c) (no_alternate kept && has_room l v c) _ _
        (ap (λ (room : Bool). no_alternate kept && room) (has_room-same laws w v c meets))
        (λ e. plain_steps_meet None (ToSend c wants (second_holds (no_alternate kept) (has_room k w c) e) refl)
        (no_start (first_holds (no_alternate kept) (has_room k w c) e)))
    plain_acts_meet (ReceivesOn c) wants =
        when_meets (MovesMeet shared related) (no_alternate kept) (no_alternate kept) _ _ refl
        (λ none. subst
        (λ (message : Option ℤ). OptionsMeet (MovesMeet shared related)
        (plain_receives k kept q w (message_there k w c)) (plain_receives l kept r v message))
        (message_there-same laws kept.turn kept.process q w c may (inl wants) v meets)
        (plain_receives_meet c wants none (message_there k w c) refl))
    plain_acts_meet (MayReceiveOn c) wants =
        when_meets (MovesMeet shared related) (no_alternate kept) (no_alternate kept) _ _ refl
        (λ none. subst
        (λ (message : Option ℤ). OptionsMeet (MovesMeet shared related) (plain_steps k kept (message_there k w c) q w)
        (plain_steps l kept message r v))
        (message_there-same laws kept.turn kept.process q w c may (inr wants) v meets)
        (plain_steps_meet (message_there k w c) (ToReceiveIfThere c wants refl) (no_start none)))
    plain_acts_meet (Enters facts) wants =
        when_meets (MovesMeet shared related) (no_alternate kept && nat_lt (length q.levels) most_levels)
        (no_alternate kept && nat_lt (length r.levels) most_levels) _ _
        (ap (λ (n : ℕ). no_alternate kept && nat_lt n most_levels) (same_length q.levels r.levels both.marks))
        (λ _. open_at_meets laws kept.turn kept.process q w r v may both meets facts 0 wants)
    plain_acts_meet Starts wants =
        when_meets (MovesMeet shared related) (has_alternate kept q) (has_alternate kept r) _ _
        (ap (λ (n : ℕ). nat_lt 0 kept.alternate && nat_le kept.alternate n)
        (alternates_same (last_of q.levels) (last_of r.levels) (last_marks q.levels r.levels both.marks)))
        (λ _. plain_steps_meet None (ToStart wants refl) (inl wants))
    plain_acts_meet Acts wants =
        when_meets (MovesMeet shared related) (no_alternate kept) (no_alternate kept) _ _ refl
        (λ none. plain_steps_meet None (ToAct wants refl) (no_start none))

    plain_acts_meet_both : OptionsMeet (MovesMeet shared related) (plain_acts k kept q w (k.want q.state)) (plain_acts l kept r v (l.want r.state))
    plain_acts_meet_both =
        subst (λ (want : Want). OptionsMeet (MovesMeet shared related) (plain_acts k kept q w (k.want q.state)) (plain_acts l kept r v want))
        (laws.want w.memory v.memory _ q.state _ r.state (away_states laws kept.turn kept.process q w r v may both meets))
        (plain_acts_meet (k.want q.state) refl)

  at_line_meets : (kept : Kept) (q : Process S C) (w : World S C M) (r : Process T D) (v : World T D N)
      → KnowsKept known kept w → RunsAt kept.process q w
      → ProcessesMeet related w.memory v.memory q r → WorldsMeet shared related w v
      → (a b : Bool) → q.at_line ≡ a → a ≡ b
      → OptionsMeet (MovesMeet shared related) (cond a None (plain_acts k kept q w (k.want q.state)))
      (cond b None (plain_acts l kept r v (l.want r.state)))
  at_line_meets kept q w r v knows at both meets true true e f = tt
  at_line_meets kept q w r v knows at both meets true false e f = absurd (true≢false f)
  at_line_meets kept q w r v knows at both meets false true e f = absurd (true≢false (sym f))
  at_line_meets kept q w r v knows at both meets false false e f =
      plain_acts_meet_both kept q w r v (record { knows = knows q at e; runs = at; away = e }) both meets

  plain_runs_meet : (kept : Kept) (q : Process S C) (w : World S C M) (r : Process T D) (v : World T D N)
      → KnowsKept known kept w → slice_get w.processes kept.process ≡ Some q
      → ProcessesMeet related w.memory v.memory q r → WorldsMeet shared related w v → (status : ProcessStatus) → q.status ≡ status
      → OptionsMeet (MovesMeet shared related) (plain_runs k kept q w status) (plain_runs l kept r v status)
  plain_runs_meet kept q w r v knows there both meets Running e =
      at_line_meets kept q w r v knows (record { there = there; running = e }) both meets q.at_line r.at_line refl both.lines
  plain_runs_meet kept q w r v knows there both meets Finished e = tt
  plain_runs_meet kept q w r v knows there both meets (FailedWith cause) e = tt

  plain_moves_meet : (kept : Kept) (w : World S C M) (v : World T D N) → KnowsKept known kept w → WorldsMeet shared related w v
      → (q : Option (Process S C)) (r : Option (Process T D)) → slice_get w.processes kept.process ≡ q
      → OptionsMeet (ProcessesMeet related w.memory v.memory) q r
      → OptionsMeet (MovesMeet shared related) (plain_moves k kept w q) (plain_moves l kept v r)
  plain_moves_meet kept w v knows meets None None e both = tt
  plain_moves_meet kept w v knows meets None (Some r) e both = absurd both
  plain_moves_meet kept w v knows meets (Some q) None e both = absurd both
  plain_moves_meet kept w v knows meets (Some q) (Some r) e both =
      subst (λ (status : ProcessStatus). OptionsMeet (MovesMeet shared related) (plain_runs k kept q w q.status)
      (plain_runs l kept r v status)) both.statuses
      (plain_runs_meet kept q w r v knows e both meets q.status refl)

  plain_turned_meets : (w : World S C M) (v : World T D N) (x : Option (Moved S C M)) (y : Option (Moved T D N)) → WorldsMeet shared related w v
      → OptionsMeet (MovesMeet shared related) x y → OptionsMeet (TurnsMeet shared related) (plain_turned k w x) (plain_turned l v y)
  plain_turned_meets w v None None meets e = tt
  plain_turned_meets w v None (Some y) meets e = absurd e
  plain_turned_meets w v (Some x) None meets e = absurd e
  plain_turned_meets w v (Some x) (Some y) meets e = finishes_meet laws w v x y meets e

  -- one turn of a record
  pub plain_turn_meets : (kept : Kept) (w : World S C M) (v : World T D N) → KnowsKept known kept w → WorldsMeet shared related w v
      → OptionsMeet (TurnsMeet shared related) (plain_turn k kept w) (plain_turn l kept v)
  plain_turn_meets kept w v knows meets =
      plain_turned_meets w v _ _ meets
      (plain_moves_meet kept w v knows meets (slice_get w.processes kept.process) (slice_get v.processes kept.process) refl
      (get_meets related w.memory v.memory w.processes v.processes kept.process meets.processes))

-- both are stuck at one turn, or both end
abbrev pub EndsMeet : {S C M T D N : Type 0} → Shared M N → Related S C M T D N → PlainEnd S C M → PlainEnd T D N → Type 0
EndsMeet shared related (Ended w lines) (Ended v lines') = WorldsMeet shared related w v × (lines ≡ lines')
EndsMeet shared related (Ended w lines) (StuckAt t) = ⊥
EndsMeet shared related (StuckAt t) (Ended v lines) = ⊥
EndsMeet shared related (StuckAt t) (StuckAt t') = t ≡ t'

plain_told_meets : {S C M T D N : Type 0} (shared : Shared M N) (related : Related S C M T D N) (t : ℕ) (one one' : Told)
    (x : PlainEnd S C M) (y : PlainEnd T D N)
    → one ≡ one' → EndsMeet shared related x y → EndsMeet shared related (plain_told t one x) (plain_told t one' y)
plain_told_meets shared related t one one' (Ended w lines) (Ended v lines') e both =
    (both.0, ap₂ (λ (x : Told) (all : List (ℕ × Told)). (t, x) ∷ all) e both.1)
plain_told_meets shared related t one one' (Ended w lines) (StuckAt t') e both = absurd both
plain_told_meets shared related t one one' (StuckAt t') (Ended v lines) e both = absurd both
plain_told_meets shared related t one one' (StuckAt t') (StuckAt t'') e both = both

-- what holds before every turn of a plain run tells all that is to be known
pub record KeepsPlainKnown {S C M : Type 0} (k : Kind S C M) (known : Knowing S C M) (holds : World S C M → Type 0) : Type 0 where
  pub knows : (kept : Kept) (w : World S C M) → holds w → KnowsKept known kept w
  pub stays : (kept : Kept) (w : World S C M) (x : World S C M × Told) → holds w → plain_turn k kept w ≡ Some x → holds x.0

-- nothing is asked
pub keeps_nothing_plain : {S C M : Type 0} (k : Kind S C M) → KeepsPlainKnown k nothing_known (λ _. Unit {0})
keeps_nothing_plain k = record { knows = λ kept w _ q _ _. tt; stays = λ kept w x _ _. tt }

module _ {S C M T D N : Type 0} {k : Kind S C M} {l : Kind T D N} {shared : Shared M N} {related : Related S C M T D N} {known : Knowing S C M}
    (laws : IsPlainSimulation k l shared related known) where
  plain_on_meets : (t : ℕ) (x : Option (World S C M × Told)) (y : Option (World T D N × Told))
      (others : World S C M → PlainEnd S C M) (others' : World T D N → PlainEnd T D N)
      → OptionsMeet (TurnsMeet shared related) x y
      → ((w : World S C M × Told) (v : World T D N × Told) → x ≡ Some w → WorldsMeet shared related w.0 v.0
      → EndsMeet shared related (others w.0) (others' v.0))
      → EndsMeet shared related (plain_on t x others) (plain_on t y others')
  plain_on_meets t None None others others' e rest = refl
  plain_on_meets t None (Some y) others others' e rest = absurd e
  plain_on_meets t (Some x) None others others' e rest = absurd e
  plain_on_meets t (Some x) (Some y) others others' e rest =
      plain_told_meets shared related t x.1 y.1 (others x.0) (others' y.0) e.same_told (rest x y refl e.worlds)

  -- the plain run of a record
  pub plain_run_meets : {holds : World S C M → Type 0} → KeepsPlainKnown k known holds → (turns : List Kept) (w : World S C M) (v : World T D N)
      → holds w → WorldsMeet shared related w v → EndsMeet shared related (plain_run k turns w) (plain_run l turns v)
  plain_run_meets along [] w v holds meets = (meets, refl)
  plain_run_meets along (kept ∷ turns) w v holds meets =
      plain_on_meets kept.turn (plain_turn k kept w) (plain_turn l kept v) (plain_run k turns) (plain_run l turns)
      (plain_turn_meets laws kept w v (along.knows kept w holds) meets)
      (λ x y e worlds. plain_run_meets along turns x.0 y.0 (along.stays kept w x holds e) worlds)
