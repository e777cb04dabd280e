-- Invariants of each process alone: what a change does to one process at a time is all that is to be shown.
use Rattle.std.proofs.Common.{◌≡◌, ℕ, ℤ, zero, suc, Bool, true, false, cond, List, [], ◌∷◌, ◌++◌, map, position, slice_get, Option, Some, None, refl, subst}
use Rattle.rb_base.specs.declared.event.Cause.{Cause}
use Rattle.rb_base.specs.declared.event.Cause.TheVariants.{Inner}
use Rattle.rb_world.specs.Kind.{Facts, Kind, Went, Held}
use Rattle.rb_world.specs.World.{Process, World, goes_on, is_inside, is_of, last_of, settled, with_process, without_last, copy_of}
use Rattle.rb_world.specs.Reject.{all_back, at_place, fallen, fallen_inside, put_back, raised, where_inside}
use Rattle.rb_world.specs.Turn.{freed, leaves, new_level, opening, run, stands_at, stands_now, turn_used}
use Rattle.rb_world.specs.Standing.{Each}
use Rattle.rb_world.proofs.TurnFacts.{StepsAt, EntersAt}
use Rattle.rb_world.proofs.Keeping.Invariant.{IsInvariant}
use Rattle.rb_world.proofs.Keeping.Induction.{run-keeps}
use Rattle.rb_world.proofs.ListFacts.{none_some, some_same, Each-change_at, Each-map}

-- The laws of a predicate of a process and its number. Where a step, an entry or a test is spoken of, w is a world in
-- which the process is the one of that number.
pub record KeepsEach {S C M : Type 0} (k : Kind S C M) (P : ℕ → Process S C → Type 0) : Type 0 where
  pub counts : (p : ℕ) (q : Process S C) → P p q → P p (turn_used q)
  pub goes : (t p : ℕ) (q : Process S C) (w : World S C M) (alternate : ℕ) (message : Option ℤ) (s : S) (m : M) → P p q
      → StepsAt k p q w alternate message → k.step alternate (copy_of (last_of q.levels)) q.state message w.memory ≡ Went s m
      → P p (settled k (k.keep t alternate s m).0 q.levels)
  pub opens : (t p : ℕ) (q : Process S C) (w : World S C M) (facts : Facts) (alternate : ℕ) → P p q
      → EntersAt k p q w facts alternate
      → let s = (k.keep t 0 (k.enter q.state) w.memory).0 in
      P p (goes_on k s (q.levels ++ new_level k facts alternate s ∷ []))
  pub accepts : (t p : ℕ) (q : Process S C) (w : World S C M) (alternate : ℕ) (message : Option ℤ) (s : S) → P p q
      → StepsAt k p q w alternate message → k.step alternate (copy_of (last_of q.levels)) q.state message w.memory ≡ Held s
      → P p (settled k (k.accept (k.keep t alternate s w.memory).0) (without_last q.levels))
  pub stands : (t p : ℕ) (q : Process S C) (w : World S C M) (alternate : ℕ) (message : Option ℤ) (s : S) → P p q
      → StepsAt k p q w alternate message → k.step alternate (copy_of (last_of q.levels)) q.state message w.memory ≡ Held s
      → P p (stands_now (k.keep t alternate s w.memory).0 q.levels)
  pub leaves : (p c : ℕ) (q : Process S C) → P p q → stands_at c q ≡ true → P p (settled k (k.accept q.state) (without_last q.levels))
  pub falls : (p : ℕ) (q : Process S C) (cause : Cause) → P p q → P p (fallen k cause q)
  pub goes_back : (p j : ℕ) (q : Process S C) → P p q → P p (put_back k j q)
  pub rises : (p j : ℕ) (q : Process S C) → P p q → P p (raised j q)
  pub is_freed : (p : ℕ) (q : Process S C) → P p q → P p (freed k q)

-- the processes of an opening
pub settled_each : {S C M : Type 0} (k : Kind S C M) (P : ℕ → Process S C → Type 0) (states : List S)
    → ((r : ℕ) (s : S) → slice_get states r ≡ Some s → P r (settled k s [])) → Each P (map (λ s. settled k s []) states)
settled_each k P (s ∷ states) one zero q e = subst (P 0) (some_same e) (one 0 s refl)
settled_each k P (s ∷ states) one (suc r) q e = settled_each k (λ n. P (suc n)) states (λ n. one (suc n)) r q e
settled_each k P [] one r q e = absurd (none_some e)

module _ {S C M : Type 0} {k : Kind S C M} {P : ℕ → Process S C → Type 0} (laws : KeepsEach k P) where
  -- whoever is inside a conversation is changed
  at_place-keeps : (f : ℕ → Process S C → Process S C) (p : ℕ) (place : Option ℕ) (q : Process S C)
      → ((j : ℕ) → P p q → P p (f j q)) → P p q → P p (at_place f place q)
  at_place-keeps f p None q one holds = holds
  at_place-keeps f p (Some j) q one holds = one j holds

  all_back-keeps : (c : ℕ) (w : World S C M) → Each P w.processes → Each P (all_back k c w).processes
  all_back-keeps c w holds = Each-map P (where_inside (put_back k) c) w.processes holds
      (λ r q _. at_place-keeps (put_back k) r (position (is_of c) q.levels) q (λ j. laws.goes_back r j q))

  all_raised-keeps : (c : ℕ) (qs : List (Process S C)) → Each P qs → Each P (map (where_inside raised c) qs)
  all_raised-keeps c qs holds = Each-map P (where_inside raised c) qs holds
      (λ r q _. at_place-keeps raised r (position (is_of c) q.levels) q (λ j. laws.rises r j q))

  fallen_inside-keeps : (p c : ℕ) (q : Process S C) (inside : Bool) → P p q → P p (cond inside (fallen k Inner q) q)
  fallen_inside-keeps p c q true holds = laws.falls p q Inner holds
  fallen_inside-keeps p c q false holds = holds

  leaves-keeps : (p c : ℕ) (q : Process S C) (there : Bool) → stands_at c q ≡ there → P p q
      → P p (cond there (settled k (k.accept q.state) (without_last q.levels)) q)
  leaves-keeps p c q true e holds = laws.leaves p c q holds e
  leaves-keeps p c q false e holds = holds

  -- one process gets a new state
  set-keeps : (p : ℕ) (q : Process S C) (w : World S C M) → Each P w.processes → P p q → Each P (with_process p (λ _. q) w).processes
  set-keeps p q w holds new = Each-change_at P p (λ _. q) w.processes holds (λ _ _. new)

  change-keeps : (p : ℕ) (f : Process S C → Process S C) (w : World S C M) → ((q : Process S C) → P p q → P p (f q))
      → Each P w.processes → Each P (with_process p f w).processes
  change-keeps p f w one holds = Each-change_at P p f w.processes holds (λ q e. one q (holds p q e))

  pub each_kept : IsInvariant k (λ _ _ w. Each P w.processes) (λ _ _ _ _ w. Each P w.processes) (λ _ _ w. Each P w.processes)
  each_kept = record {
    rests = λ t past w h. h;
    uses = λ t past p q w h r. set-keeps p (turn_used q) w h (laws.counts p q (h p q r.there));
    overruns = λ t past p q w j h r e. h;
    waits = λ t past p q w h r e. h;
    goes = λ t past p q w a v s m h at e. set-keeps p (settled k (k.keep t a s m).0 q.levels) w h
        (laws.goes t p q w a v s m (h p q at.acts.runs.there) at e);
    opens = λ t past p q w f a h at. set-keeps p
        (goes_on k (k.keep t 0 (k.enter q.state) w.memory).0 (q.levels ++ new_level k f a (k.keep t 0 (k.enter q.state) w.memory).0 ∷ [])) w h
        (laws.opens t p q w f a (h p q at.acts.runs.there) at);
    accepts = λ t past p q w a v s l h at e _ _. set-keeps p (settled k (k.accept (k.keep t a s w.memory).0) (without_last q.levels)) w h
        (laws.accepts t p q w a v s (h p q at.acts.runs.there) at e);
    stands = λ t past p q w a v s l c h at e _ _ _. set-keeps p (stands_now (k.keep t a s w.memory).0 q.levels) w h
        (laws.stands t p q w a v s (h p q at.acts.runs.there) at e);
    leaves = λ t past p q w a v s l c h at e _ _ _.
        Each-map P (leaves k c) (with_process p (λ _. stands_now (k.keep t a s w.memory).0 q.levels) w).processes
        (set-keeps p (stands_now (k.keep t a s w.memory).0 q.levels) w h (laws.stands t p q w a v s (h p q at.acts.runs.there) at e))
        (λ r x _. leaves-keeps r c x (stands_at c x) refl);
    falls = λ t past p q w n cause h r why. change-keeps p (fallen k cause) w (λ x. laws.falls p x cause) h;
    tries_next = λ t past p q w j l h r x y. change-keeps p (raised j) (with_process p (put_back k j) w) (λ x. laws.rises p j x)
        (change-keeps p (put_back k j) w (λ x. laws.goes_back p j x) h);
    is_spent = λ t past p q w j l h r x y. change-keeps p (put_back k j) w (λ x. laws.goes_back p j x) h;
    all_try_next = λ t past p q w j l c h r x y. all_raised-keeps c (all_back k c w).processes (all_back-keeps c w h);
    all_are_spent = λ t past p q w j l c d h r x y z. all_back-keeps c w h;
    breaks = λ t past p q w j l c h r x y z. Each-map P (fallen_inside k c) (all_back k c w).processes (all_back-keeps c w h)
        (λ n q _. fallen_inside-keeps n c q (is_inside c q));
    is_gone = λ t past p q w j h r e. h;
    releases = λ t past w o h e. Each-map P (freed k) w.processes h (λ r q _. laws.is_freed r q);
  }

  -- so it holds of each process after every run
  pub each_run : (t : ℕ) (turns : List ℕ) (w : World S C M) → Each P w.processes → Each P (run k t turns w).0.processes
  each_run t turns w holds = run-keeps each_kept t [] turns w holds

  pub each_opening_run : (turns : List ℕ) (states : List S) (m : M) → ((r : ℕ) (s : S) → slice_get states r ≡ Some s → P r (settled k s []))
      → Each P (run k 1 turns (opening k states m)).0.processes
  each_opening_run turns states m one = each_run 1 turns (opening k states m) (settled_each k P states one)
