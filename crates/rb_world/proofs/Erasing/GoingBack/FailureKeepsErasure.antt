-- A process fails. It has no level and stands at no line, or one private level that was put back: so it is shown at number 0
-- before, and in all its marks by its own state after.
use Rattle.std.proofs.Common.{◌≡◌, ◌≤◌, ℕ, ◌+◌, Bool, true, false, cond, nat_eq, List, length, [], ◌∷◌, slice_get, Some, None, refl, sym, ap, ◌∙◌, subst, arith, eqb-true}
use Rattle.rb_base.specs.declared.event.Cause.{Cause}
use Rattle.rb_world.specs.World.{Level, FailedWith, Process, World, change_at, with_process}
use Rattle.rb_world.specs.Reject.{fallen}
use Rattle.rb_world.specs.Standing.{is_failed}
use Rattle.rb_world.specs.Nested.{IsLevelOf}
use Rattle.rb_world.specs.Turn.{Told}
use Rattle.rb_world.proofs.Erasing.ErasableKinds.{Nothing, Parts, whole}
use Rattle.rb_world.proofs.Erasing.Showing.Cuts.{plain_levels, shown_at, AreOwn, ShowsOne, Alive, Lost, IsConsistent, with_shown}
use Rattle.rb_world.proofs.Erasing.Showing.ErasureInvariant.{IsQuiet, ShowsCut, AllShown, Grounded, ErasedAfter}
use Rattle.rb_world.proofs.Erasing.Showing.OtherProcessesInCuts.{changed_there, is_changed_at, only_at, shows_changed}
use Rattle.rb_world.proofs.Erasing.GoingBack.BreakingKeepsErasure.{shows_lost}
use Rattle.rb_world.proofs.Erasing.GoingBack.TurnsNotKept.{stays_shown}
use Rattle.rb_world.proofs.ListFacts.{none_some, some_same, Each-change_at}

-- who may fail: without a level, and at no line; or with one level, a private one, that was put back
pub data MayFall {S : Type 0} (q : Process S S) : Type 0 where
  Bare : q.levels ≡ [] → q.at_line ≡ false → MayFall q
  Spent : (level : Level S) → q.levels ≡ level ∷ [] → q.state ≡ level.copy → level.facts.conversation ≡ None → MayFall q

module _ {S E P : Type 0} (x : Parts S E P) where
  -- who may fail is shown before at number 0, and after as one that has failed
  shows_fallen : (n : ℕ) (q : Process S S) (u : Process S P) (cause : Cause) → MayFall q → (is_failed q.status ≡ true → q.levels ≡ [])
      → ShowsOne x 0 q u → ShowsOne x n (fallen (whole x) cause q) u
  shows_fallen n q u cause (Spent level one put private) bare shows =
      subst (λ (s : S). ShowsOne x n (record { state = s; levels = []; at_line = false; status = FailedWith cause }) u) (sym put)
      (shows_lost x n q u cause level (ap (λ (ls : List (Level S)). slice_get ls 0) one) bare shows)
  shows_fallen n q u cause (Bare none away) bare (Alive sound is) =
      let now : u ≡ shown_at x 0 q None = is ∙ ap (shown_at x 0 q) (ap (λ (ls : List (Level S)). slice_get ls 0) none) in
      Lost refl (ap (λ (z : Process S P). z.state) now) (ap (λ (z : Process S P). z.at_line) now ∙ away)
      (subst (λ (z : Process S P). AreOwn x q.state z.levels) (sym now)
      (subst (λ (ls : List (Level S)). AreOwn x q.state (plain_levels x ls)) (sym none) tt))
  shows_fallen n q u cause (Bare none away) bare (Lost failed is far own) = Lost refl is far own

  -- and it holds no line
  quiet_fallen : (r : ℕ) (q : Process S S) (cause : Cause) → MayFall q
      → ((level : Level S) → slice_get q.levels 0 ≡ Some level → x.held level.copy ≡ [])
      → IsQuiet x r q → IsQuiet x r (fallen (whole x) cause q)
  quiet_fallen r q cause (Bare none away) outermost quiet now = quiet none
  quiet_fallen r q cause (Spent level one put private) outermost quiet now =
      ap x.held put ∙ outermost level (ap (λ (ls : List (Level S)). slice_get ls 0) one)

-- its outermost level, if it has one, is of no conversation
not_of_any : {S : Type 0} (c : ℕ) (q : Process S S) → MayFall q → IsLevelOf c q.levels 0 → ⊥
not_of_any {S} c q (Bare none away) at = none_some (sym (ap (λ (ls : List (Level S)). slice_get ls 0) none) ∙ at.there)
not_of_any {S} c q (Spent level one put private) at =
    none_some (sym private
    ∙ (ap (λ (l : Level S). l.facts.conversation) (some_same (sym (ap (λ (ls : List (Level S)). slice_get ls 0) one) ∙ at.there))
    ∙ at.of_it))

module _ {S E P : Type 0} (x : Parts S E P) (p : ℕ) (cause : Cause) (q : Process S S) (f : ℕ → ℕ) (qs : List (Process S S))
    (there : slice_get qs p ≡ Some q) (may : MayFall q)
    (consistent : IsConsistent f (change_at p (fallen (whole x) cause) qs)) where
  -- what the fall does, by the number of a process
  abbrev falls_at : ℕ → Process S S → Process S S
  falls_at r a = only_at p (fallen (whole x) cause) r a

  others_pair : (r other c i : ℕ) (a b : Process S S) → slice_get qs r ≡ Some a → slice_get qs other ≡ Some b
      → nat_eq r p ≡ false → nat_eq other p ≡ false
      → IsLevelOf c a.levels (f r) → IsLevelOf c b.levels i → f other ≤ i
  others_pair r other c i a b at here apart far of_c of_other =
      consistent r other c i (falls_at r a) (falls_at other b)
      (changed_there falls_at qs (change_at p (fallen (whole x) cause) qs) r a (is_changed_at p (fallen (whole x) cause) qs) at)
      (changed_there falls_at qs (change_at p (fallen (whole x) cause) qs) other b (is_changed_at p (fallen (whole x) cause) qs) here)
      (subst (λ (now : Bool). IsLevelOf c (cond now (fallen (whole x) cause a) a).levels (f r)) (sym apart) of_c)
      (subst (λ (now : Bool). IsLevelOf c (cond now (fallen (whole x) cause b) b).levels i) (sym far) of_other)

  any_pair : (r other c i : ℕ) (a b : Process S S) → slice_get qs r ≡ Some a → slice_get qs other ≡ Some b
      → (first second : Bool) → nat_eq r p ≡ first → nat_eq other p ≡ second
      → IsLevelOf c a.levels (cond first 0 (f r)) → IsLevelOf c b.levels i → cond second 0 (f other) ≤ i
  any_pair r other c i a b at here first true e d of_c of_other = omega arith
  any_pair r other c i a b at here true false e d of_c of_other =
      absurd (not_of_any c q may
      (subst (λ (z : Process S S). IsLevelOf c z.levels 0) (some_same (sym at ∙ (ap (slice_get qs) (eqb-true r p e) ∙ there))) of_c))
  any_pair r other c i a b at here false false e d of_c of_other = others_pair r other c i a b at here e d of_c of_other

  -- the cut of the world before
  consistent_fall : IsConsistent (with_shown f p 0) qs
  consistent_fall r other c i a b at here of_c of_other = any_pair r other c i a b at here (nat_eq r p) (nat_eq other p) refl refl of_c of_other

  shows_fall : (r : ℕ) (a : Process S S) (u : Process S P) → slice_get qs r ≡ Some a
      → (is_failed a.status ≡ true → a.levels ≡ []) → (here : Bool) → nat_eq r p ≡ here
      → ShowsOne x (cond here 0 (f r)) a u → ShowsOne x (f r) (cond here (fallen (whole x) cause a) a) u
  shows_fall r a u at bare true e shows =
      shows_fallen x (f r) a u cause (subst MayFall (some_same (sym there ∙ (ap (slice_get qs) (sym (eqb-true r p e)) ∙ at))) may) bare shows
  shows_fall r a u at bare false e shows = shows

module _ {S E P : Type 0} (x : Parts S E P) (Known : ℕ → Process S S → Type 0) (start : World S P Nothing) where
  -- the same plain worlds show the cuts of the world after a fall
  all_shown_fallen : (t : ℕ) (past : List Told) (p : ℕ) (q : Process S S) (w : World S S Nothing) (cause : Cause) → Grounded x Known w
      → slice_get w.processes p ≡ Some q → MayFall q → AllShown x start t past w → AllShown x start t past (with_process p (fallen (whole x) cause) w)
  all_shown_fallen t past p q w cause ground there may all f consistent =
      let old : ShowsCut x start t past w (with_shown f p 0) =
      all (with_shown f p 0) (consistent_fall x p cause q f w.processes there may consistent) in
      record {
        world = old.world;
        shows = shows_changed x (with_shown f p 0) f (only_at p (fallen (whole x) cause)) w.processes
            (change_at p (fallen (whole x) cause) w.processes) old.world.processes
            (is_changed_at p (fallen (whole x) cause) w.processes)
            (λ r a u at. shows_fall x p cause q f w.processes there may consistent r a u at (ground.each r a at).bare (nat_eq r p) refl) old.shows;
        erased = old.erased;
      }

  -- who may fail does so
  pub erased_falls_of : (t : ℕ) (past : List Told) (p : ℕ) (q : Process S S) (w : World S S Nothing) (cause : Cause) → Grounded x Known w
      → slice_get w.processes p ≡ Some q → MayFall q → (t ≡ length past + 1) × AllShown x start t past w
      → ErasedAfter x start t past (with_process p (fallen (whole x) cause) w)
  erased_falls_of t past p q w cause ground there may erased = (
    erased.0,
    stays_shown x Known start t past (with_process p (fallen (whole x) cause) w)
        (Each-change_at (IsQuiet x) p (fallen (whole x) cause) w.processes ground.quiet
        (λ a at. quiet_fallen x p a cause (subst MayFall (some_same (sym there ∙ at)) may) (ground.each p a at).outermost (ground.quiet p a at)))
        (all_shown_fallen t past p q w cause ground there may erased.1),
  )
