-- An entry: a cut that shows p further out does not see it, and in any other the plain run enters too. Then p is shown at its
-- new level or in the present, which are the same.
use Rattle.std.proofs.Common.{◌≡◌, ◌≤◌, ◌<◌, ◌+◌, ℕ, Bool, true, false, cond, nat_lt, List, [], ◌∷◌, ◌++◌, length, slice_get, Some, None, refl, sym, ap, ◌∙◌, subst, ltb-true, ltb-false, lt-ltb, arith, take_all}
use Rattle.std.proofs.lemmas.List.{length-map, map-append}
use Rattle.rb_world.specs.Kind.{Facts, Enters}
use Rattle.rb_world.specs.World.{Level, Running, Process, World, change_at, goes_on, with_process}
use Rattle.rb_world.specs.Nested.{IsLevelOf}
use Rattle.rb_world.specs.Turn.{Told, most_levels, new_level, open_at}
use Rattle.rb_base.specs.declared.kept.Kept.{Kept}
use Rattle.rb_world.specs.Plain.{plain_acts, plain_moves, plain_runs, when}
use Rattle.rb_world.proofs.TurnFacts.{EntersAt}
use Rattle.rb_world.proofs.ListFacts.{some_same}
use Rattle.rb_world.proofs.Keeping.Invariant.{BothWithin, Opens}
use Rattle.rb_world.proofs.Keeping.EachProcess.{KeepsEach}
use Rattle.rb_world.proofs.Erasing.ErasableKinds.{Nothing, Parts, whole, plain, IsErasable, SameMail}
use Rattle.rb_world.proofs.Erasing.Showing.Cuts.{plain_level, plain_levels, shown, Alive}
use Rattle.rb_world.proofs.Erasing.Showing.ErasureInvariant.{GroundedWithin, GroundedDuring, ShowsCut, ShowsAfter, TurnKept, ErasedWithin, ErasedAfter}
use Rattle.rb_world.proofs.ListFacts.{slice_get-front, slice_get-end, length-end, end-not_empty}
use Rattle.rb_world.proofs.Erasing.Stepping.PresentProcess.{as_is, shown_present}
use Rattle.rb_world.proofs.Erasing.Showing.ShownOlder.{running_whole, shown_outside, shown_older}
use Rattle.rb_world.proofs.Erasing.Showing.MailKept.{mail_then}
use Rattle.rb_world.proofs.Erasing.Stepping.TurnOfOneProcess.{one_kept, one_unseen}
use Rattle.rb_world.proofs.Erasing.Showing.ConsistentCuts.{consistent_kept, levels_changed, level_within}

module _ {S E P : Type 0} (x : Parts S E P) where
  -- the state after an entry, and the process
  abbrev entered : ℕ → Process S S → S
  entered t q = x.keep t 0 (x.enter q.state)

  abbrev entering : ℕ → Facts → ℕ → Process S S → Level S
  entering t facts alternate q = new_level (whole x) facts alternate (entered t q)

  abbrev inside_new : ℕ → Facts → ℕ → Process S S → Process S S
  inside_new t facts alternate q = goes_on (whole x) (entered t q) (q.levels ++ entering t facts alternate q ∷ [])

  -- and in the plain run
  abbrev inside_plain : ℕ → Facts → Process S S → Process S P
  inside_plain t facts q = goes_on (plain x) (entered t q) (plain_levels x q.levels ++ new_level (plain x) facts 0 (entered t q) ∷ [])

  -- the plain run enters too
  plain_enters : (t p : ℕ) (q : Process S S) (v : World S P Nothing) (facts : Facts) → q.status ≡ Running → q.at_line ≡ false
      → x.want q.state ≡ Enters facts → length q.levels < most_levels
      → plain_moves (plain x) (record { turn = t; process = p; alternate = 0 }) v (Some (as_is x q))
      ≡ Some (open_at (plain x) t p facts 0 (as_is x q) v)
  plain_enters t p q v facts running away wants few =
      let kept : Kept = record { turn = t; process = p; alternate = 0 } in
      ap (plain_runs (plain x) kept (as_is x q) v) running
      ∙ ap (λ (line : Bool). cond line None (plain_acts (plain x) kept (as_is x q) v (x.want q.state))) away
      ∙ ap (plain_acts (plain x) kept (as_is x q) v) wants
      ∙ ap (λ (b : Bool). when b (Some (open_at (plain x) t p facts 0 (as_is x q) v)))
      (lt-ltb (length (plain_levels x q.levels)) most_levels (subst (λ (n : ℕ). n < most_levels) (sym (length-map q.levels (plain_level x))) few))

  -- a process that has just entered is shown alike at its new level and in the present
  entered_shown : (t p m : ℕ) (facts : Facts) (alternate : ℕ) (q : Process S S) → length q.levels ≤ m → (inner : Bool)
      → nat_lt (length q.levels) m ≡ inner
      → shown x m (inside_new t facts alternate q) ≡ as_is x (inside_new t facts alternate q)
  entered_shown t p m facts alternate q here true e =
      shown_present x m (inside_new t facts alternate q)
      (subst (λ (n : ℕ). n ≤ m) (sym (length-end q.levels (entering t facts alternate q))) (ltb-true (length q.levels) m e))
  entered_shown t p m facts alternate q here false e =
      let level : Level S = entering t facts alternate q in
      let levels : List (Level S) = q.levels ++ level ∷ [] in
      let same : m ≡ length q.levels = omega (arith, here, ltb-false (length q.levels) m e) in
      shown_older x m (inside_new t facts alternate q) level (ap (slice_get levels) same ∙ slice_get-end q.levels level)
      ∙ ap (λ (ls : List (Level S)). record {
        state = entered t q;
        levels = plain_levels x ls;
        at_line = false;
        status =
            (inside_new t facts alternate q).status;
      })
      (take_all (m + 1) levels (omega (arith, length-end q.levels level, here)))

  entered_plain : (t : ℕ) (facts : Facts) (alternate : ℕ) (q : Process S S) → inside_plain t facts q ≡ as_is x (inside_new t facts alternate q)
  entered_plain t facts alternate q =
      ap (λ (ls : List (Level P)). record { state = entered t q; levels = ls; at_line = false; status = (inside_new t facts alternate q).status })
      (sym (map-append (plain_level x) q.levels (entering t facts alternate q ∷ [])))

module _ {S E P : Type 0} (x : Parts S E P) (Known : ℕ → Process S S → Type 0) (laws : IsErasable x Known)
    (keeps : KeepsEach (whole x) Known) (start : World S P Nothing) where
  -- who enters runs on, since it has a level
  enters_running : (t p : ℕ) (q : Process S S) (w : World S S Nothing) (facts : Facts) (alternate : ℕ) → Known p q
      → EntersAt (whole x) p q w facts alternate
      → (inside_new x t facts alternate q).status ≡ Running
  enters_running t p q w facts alternate known at =
      laws.runs p (inside_new x t facts alternate q) (length q.levels) (entering x t facts alternate q)
      (keeps.opens t p q w facts alternate known at) (slice_get-end q.levels (entering x t facts alternate q))

  -- an entry changes neither mail nor held lines, and its turn is kept
  entered_mail : (t : ℕ) (s : S) → SameMail x s (x.keep t 0 (x.enter s))
  entered_mail t s = mail_then x (laws.enters s).mail (laws.keeps_mail t 0 (x.enter s))

  entered_kept : (t : ℕ) (s : S) → x.kept (x.keep t 0 (x.enter s)) ≡ x.kept s ++ (t, 0) ∷ []
  entered_kept t s = laws.keeps t 0 (x.enter s) ∙ ap (λ (turns : List (ℕ × ℕ)). turns ++ (t, 0) ∷ []) (laws.enters s).kept

  -- the old levels stay where they were
  levels_stay : (t p : ℕ) (q : Process S S) (w : World S S Nothing) (facts : Facts) (alternate : ℕ) → slice_get w.processes p ≡ Some q
      → (z : Process S S) → slice_get w.processes p ≡ Some z → (c i : ℕ) → IsLevelOf c z.levels i
      → IsLevelOf c (inside_new x t facts alternate q).levels i
  levels_stay t p q w facts alternate there z e c i l =
      let l' : IsLevelOf c q.levels i = subst (λ (a : Process S S). IsLevelOf c a.levels i) (some_same (sym e ∙ there)) l in
      record {
        level = l'.level;
        there = slice_get-front q.levels (entering x t facts alternate q ∷ []) i (level_within c i q.levels l') ∙ l'.there;
        of_it = l'.of_it;
      }

  opens_shown : (t : ℕ) (past : List Told) (p : ℕ) (q : Process S S) (w : World S S Nothing) (facts : Facts) (alternate : ℕ) (f : ℕ → ℕ)
      → GroundedWithin x Known p (length q.levels) w → EntersAt (whole x) p q w facts alternate
      → ShowsCut x start t past w f → (outside : Bool) → nat_lt (f p) (length q.levels) ≡ outside
      → ShowsAfter x start t past (with_process p (λ _. inside_new x t facts alternate q) w) f
  opens_shown t past p q w facts alternate f ground at old true e =
      let runs = at.acts.runs in
      let known : Known p q = (ground.ground.each p q runs.there).known in
      let running = enters_running t p q w facts alternate known at in
      one_unseen x start t past p w f q (inside_new x t facts alternate q) old ground.ground.quiet runs.there runs.running running
      (shown_outside x (f p) q (inside_new x t facts alternate q) (entering x t facts alternate q ∷ []) (ltb-true (f p) (length q.levels) e) refl
      (running ∙ sym runs.running))
      (end-not_empty q.levels (entering x t facts alternate q))
  opens_shown t past p q w facts alternate f ground at old false e =
      let runs = at.acts.runs in
      let known : Known p q = (ground.ground.each p q runs.there).known in
      let running = enters_running t p q w facts alternate known at in
      let here : length q.levels ≤ f p = ltb-false (f p) (length q.levels) e in
      TurnKept (one_kept x start t past p 0 w old.world f f q (inside_new x t facts alternate q) (inside_plain x t facts q) old.erased old.shows
      runs.there runs.running here (plain_enters x t p q old.world facts runs.running at.acts.away at.wants at.few)
      (entered_mail t q.state) (entered_kept t q.state) (λ _ _. refl)
      (Alive (running_whole x (inside_new x t facts alternate q) running)
      (entered_plain x t facts alternate q ∙ sym (entered_shown x t p (f p) facts alternate q here (nat_lt (length q.levels) (f p)) refl))))

  -- a block is entered
  pub erased_opens : Opens (whole x) (BothWithin (GroundedDuring x Known) (ErasedWithin x start)) (ErasedAfter x start)
  erased_opens t past p q w facts alternate h at = (
    h.1.0,
    λ f consistent. opens_shown t past p q w facts alternate f h.0 at
        (h.1.1 f (consistent_kept f w.processes (change_at p (λ _. inside_new x t facts alternate q) w.processes)
        (levels_changed p (inside_new x t facts alternate q) w.processes (levels_stay t p q w facts alternate at.acts.runs.there)) consistent))
        (nat_lt (f p) (length q.levels)) refl,
  )
