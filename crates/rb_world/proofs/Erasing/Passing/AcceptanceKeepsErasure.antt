-- A private acceptance test that held, and its level goes. A cut that shows p further out does not see it; in any other p is
-- shown as it is before and after, and the plain run does the same.
use Rattle.std.proofs.Common.{◌≡◌, ◌⊎◌, ◌≤◌, ◌<◌, ℕ, ℤ, Bool, true, false, nat_lt, List, [], ◌∷◌, length, slice_get, Option, Some, None, refl, sym, ap, ◌∙◌, subst, inl, inr, ltb-true, ltb-false, le_of_eq, lt_of_lt_of_le, not-suc-le-zero}
use Rattle.std.specs.Option.{option_map}
use Rattle.rb_world.specs.Kind.{Held}
use Rattle.rb_world.specs.World.{Level, Running, Process, World, change_at, last_of, settled, with_process, without_last, copy_of}
use Rattle.rb_world.specs.Nested.{IsLevelOf}
use Rattle.rb_world.specs.Turn.{Told, accepted, accepted_at, took}
use Rattle.rb_world.proofs.TurnFacts.{StepsAt}
use Rattle.rb_world.proofs.ListFacts.{none_some, some_same}
use Rattle.rb_world.proofs.Keeping.StandingFacts.{status_at-whole}
use Rattle.rb_world.proofs.Keeping.Invariant.{BothWithin, Accepts}
use Rattle.rb_world.proofs.Keeping.EachProcess.{KeepsEach}
use Rattle.rb_world.proofs.Erasing.ErasableKinds.{Nothing, Parts, whole, plain, IsErasable}
use Rattle.rb_world.proofs.Erasing.Showing.Cuts.{plain_level, plain_levels, shown, Alive, IsConsistent, with_shown}
use Rattle.rb_world.proofs.Erasing.Showing.ErasureInvariant.{GroundedWithin, GroundedDuring, ShowsAfter, TurnKept, AllShown, ErasedWithin, ErasedAfter}
use Rattle.rb_world.proofs.ListFacts.{last_stands_last, slice_get-there}
use Rattle.rb_world.proofs.Erasing.Stepping.PresentProcess.{shown_present}
use Rattle.rb_world.proofs.Erasing.Showing.ShownOlder.{shown_outside}
use Rattle.rb_world.proofs.Erasing.Showing.MailKept.{mail_then}
use Rattle.rb_world.proofs.Erasing.Showing.ConsistentCuts.{consistent_kept, levels_changed, level_within, present_consistent, shown_here, shown_elsewhere}
use Rattle.rb_world.proofs.Erasing.Stepping.TurnOfOneProcess.{one_kept, one_unseen}
use Rattle.rb_world.proofs.LastLevels.{last_of-map, without_last-map, last_or_before}
use Rattle.rb_world.proofs.Erasing.Passing.SameAcceptanceTest.{held_at, held_kept, held_mail, plain_holds}

module _ {S E P : Type 0} (x : Parts S E P) where
  -- p once its innermost level was accepted
  abbrev accepting : ℕ → ℕ → S → Process S S → Process S S
  accepting t alternate s q = settled (whole x) (x.keep t alternate s) (without_last q.levels)

  abbrev accepting_plain : ℕ → ℕ → S → Process S S → Process S P
  accepting_plain t alternate s q = settled (plain x) (x.keep t alternate s) (without_last (plain_levels x q.levels))

  -- a private level goes in the plain run too
  accepted_plain : (t p alternate : ℕ) (q : Process S S) (v : World S P Nothing) (s : S) (level : Level S) → last_of q.levels ≡ Some level
      → level.facts.conversation ≡ None
      → accepted (plain x) p (plain_levels x q.levels) (last_of (plain_levels x q.levels)) v (x.keep t alternate s, v.memory)
      ≡ took (with_process p (λ _. accepting_plain t alternate s q) v)
  accepted_plain t p alternate q v s level last alone =
      ap (λ (o : Option (Level P)). accepted (plain x) p (plain_levels x q.levels) o v (x.keep t alternate s, v.memory))
      (last_of-map (plain_level x) q.levels ∙ ap (option_map (plain_level x)) last)
      ∙ ap (λ (c : Option ℕ). accepted_at (plain x) p (plain_levels x q.levels) c v (x.keep t alternate s, v.memory)) alone

  accepting_shown : (t alternate m : ℕ) (s : S) (q : Process S S) → length (without_last q.levels) ≤ m
      → accepting_plain t alternate s q ≡ shown x m (accepting t alternate s q)
  accepting_shown t alternate m s q here =
      ap (λ (ls : List (Level P)). settled (plain x) (x.keep t alternate s) ls) (without_last-map (plain_level x) q.levels)
      ∙ sym (shown_present x m (accepting t alternate s q) here)

module _ {S E P : Type 0} (x : Parts S E P) (Known : ℕ → Process S S → Type 0) (laws : IsErasable x Known)
    (keeps : KeepsEach (whole x) Known) (start : World S P Nothing) where
  -- where a level is left, p runs on
  accepts_running : (t p : ℕ) (q : Process S S) (w : World S S Nothing) (alternate : ℕ) (message : Option ℤ) (s : S) → Known p q
      → StepsAt (whole x) p q w alternate message
      → x.step alternate (option_map x.environment (copy_of (last_of q.levels))) q.state message ≡ Held s
      → (n : ℕ) → n < length (without_last q.levels) → (accepting x t alternate s q).status ≡ Running
  accepts_running t p q w alternate message s known at e n h =
      let found = slice_get-there (without_last q.levels) n h in
      laws.runs p (accepting x t alternate s q) n found.0 (keeps.accepts t p q w alternate message s known at e) found.1

  -- the levels of conversations stay, since a private one goes
  others_stay : (t alternate : ℕ) (s : S) (p : ℕ) (q : Process S S) (w : World S S Nothing) (level : Level S) → slice_get w.processes p ≡ Some q
      → last_of q.levels ≡ Some level → level.facts.conversation ≡ None
      → (z : Process S S) → slice_get w.processes p ≡ Some z → (c i : ℕ) → IsLevelOf c z.levels i → IsLevelOf c (accepting x t alternate s q).levels i
  others_stay t alternate s p q w level there last alone z e c i l =
      not_last c i (last_or_before c i q.levels level last (subst (λ (a : Process S S). IsLevelOf c a.levels i) (some_same (sym e ∙ there)) l)
      (nat_lt i (length (without_last q.levels))) refl)
    where
      not_last : (c i : ℕ) → ((i ≡ length (without_last q.levels)) × (level.facts.conversation ≡ Some c)) ⊎ IsLevelOf c (without_last q.levels) i
          → IsLevelOf c (without_last q.levels) i
      not_last c i (inl h) = absurd (none_some (sym alone ∙ h.1))
      not_last c i (inr h) = h

  accepts_shown : (t : ℕ) (past : List Told) (p : ℕ) (q : Process S S) (w : World S S Nothing) (alternate : ℕ)
      (message : Option ℤ) (s : S) (level : Level S) (f : ℕ → ℕ)
      → GroundedWithin x Known p (length q.levels) w → AllShown x start t past w → StepsAt (whole x) p q w alternate message
      → x.step alternate (option_map x.environment (copy_of (last_of q.levels))) q.state message ≡ Held s
      → last_of q.levels ≡ Some level → level.facts.conversation ≡ None
      → IsConsistent f w.processes → (outside : Bool) → nat_lt (f p) (length (without_last q.levels)) ≡ outside
      → ShowsAfter x start t past (with_process p (λ _. accepting x t alternate s q) w) f
  accepts_shown t past p q w alternate message s level f ground old at e last alone consistent true h =
      let runs = at.acts.runs in
      let known : Known p q = (ground.ground.each p q runs.there).known in
      let less : f p < length (without_last q.levels) = ltb-true (f p) (length (without_last q.levels)) h in
      let running = accepts_running t p q w alternate message s known at e (f p) less in
      one_unseen x start t past p w f q (accepting x t alternate s q) (old f consistent) ground.ground.quiet runs.there runs.running running
      (sym (shown_outside x (f p) (accepting x t alternate s q) q (level ∷ []) less (last_stands_last q.levels level last)
      (runs.running ∙ sym running)))
      (λ bare. not-suc-le-zero (subst (λ (ls : List (Level S)). f p < length ls) bare less))
  accepts_shown t past p q w alternate message s level f ground old at e last alone consistent false h =
      let runs = at.acts.runs in
      let known : Known p q = (ground.ground.each p q runs.there).known in
      let held = held_at x Known laws p q w alternate message s known at e in
      let here : length (without_last q.levels) ≤ f p = ltb-false (f p) (length (without_last q.levels)) h in
      let g : ℕ → ℕ = with_shown f p (length q.levels) in
      let same : (z : Process S S) → slice_get w.processes p ≡ Some z → z ≡ q = λ z there. some_same (sym there ∙ runs.there) in
      let shows = old g (present_consistent f p (length q.levels) w.processes consistent
      (λ z there. le_of_eq (ap (λ (a : Process S S). length a.levels) (same z there)))
      (λ z c j there l. lt_of_lt_of_le
      (level_within c j (without_last q.levels) (others_stay t alternate s p q w level runs.there last alone z there c j l)) here)) in
      TurnKept (one_kept x start t past p alternate w shows.world f g q (accepting x t alternate s q)
      (accepting_plain x t alternate s q) shows.erased shows.shows
      runs.there runs.running (le_of_eq (sym (shown_here f p (length q.levels))))
      (plain_holds x Known laws t p alternate q w shows.world s runs.running at.acts.away held
      ∙ ap Some (accepted_plain x t p alternate q shows.world s level last alone))
      (mail_then x (held_mail x Known laws t p alternate q w s held) (laws.settles (x.keep t alternate s)).mail)
      ((laws.settles (x.keep t alternate s)).kept ∙ held_kept x Known laws t p alternate q w s held)
      (shown_elsewhere f p (length q.levels))
      (Alive (status_at-whole (x.want (x.settle (x.keep t alternate s)))) (accepting_shown x t alternate (f p) s q here)))

  -- the acceptance test of a private level held
  pub erased_accepts : Accepts (whole x) (BothWithin (GroundedDuring x Known) (ErasedWithin x start)) (ErasedAfter x start)
  erased_accepts t past p q w alternate message s level h at e last alone = (
    h.1.0,
    λ f consistent. accepts_shown t past p q w alternate message s level f h.0 h.1.1 at e last alone
        (consistent_kept f w.processes (change_at p (λ _. accepting x t alternate s q) w.processes)
        (levels_changed p (accepting x t alternate s q) w.processes (others_stay t alternate s p q w level at.acts.runs.there last alone)) consistent)
        (nat_lt (f p) (length (without_last q.levels))) refl,
  )
