-- A member comes to a line which others have not reached. A cut that shows it further out does not see it; in any other the
-- plain run does the same, and not all stand there either.
use Rattle.std.proofs.Common.{◌≡◌, ◌≤◌, ℕ, ℤ, Bool, true, false, true≢false, cond, nat_lt, List, [], length, slice_get, Option, Some, refl, sym, ap, ◌∙◌, subst, ltb-true, ltb-false, append-nil}
use Rattle.std.specs.Option.{option_map}
use Rattle.rb_base.specs.declared.event.Event.TheVariants.{Pass}
use Rattle.rb_world.specs.Kind.{Held}
use Rattle.rb_world.specs.World.{Level, Process, World, change_at, last_of, talk_at, with_process, copy_of}
use Rattle.rb_world.specs.Nested.{IsLevelOf}
use Rattle.rb_world.specs.Turn.{Told, accepted, accepted_at, all_leave, all_stand, alternate_of, at_test_line, passed, stands_now, took}
use Rattle.rb_world.proofs.TurnFacts.{StepsAt}
use Rattle.rb_world.proofs.ListFacts.{none_some, some_same}
use Rattle.rb_world.proofs.Keeping.Invariant.{BothWithin, Stands}
use Rattle.rb_world.proofs.Erasing.ErasableKinds.{Nothing, Parts, whole, plain, IsErasable}
use Rattle.rb_world.proofs.Erasing.Showing.Cuts.{plain_level, plain_levels, ShowsOne, Alive}
use Rattle.rb_world.proofs.Erasing.Showing.ErasureInvariant.{GroundedWithin, GroundedDuring, ShowsCut, ShowsAfter, TurnKept, ErasedWithin, ErasedAfter}
use Rattle.rb_world.proofs.Erasing.Stepping.PresentProcess.{as_is, shown_present}
use Rattle.rb_world.proofs.Erasing.Showing.ShownOlder.{shown_outside}
use Rattle.rb_world.proofs.Erasing.Showing.ConsistentCuts.{consistent_kept, levels_changed}
use Rattle.rb_world.proofs.Erasing.Stepping.TurnOfOneProcess.{one_kept, one_shows, one_unseen}
use Rattle.rb_world.proofs.LastLevels.{last_of-map}
use Rattle.rb_world.proofs.Erasing.Passing.SameAcceptanceTest.{held_at, held_kept, held_mail, plain_holds}
use Rattle.rb_world.proofs.Erasing.Showing.TestLinesInCuts.{all_stand_shown}

module _ {S E P : Type 0} (x : Parts S E P) where
  -- p at the line
  abbrev pub at_line_now : ℕ → ℕ → S → Process S S → Process S S
  at_line_now t alternate s q = stands_now (x.keep t alternate s) q.levels

  -- and the plain world with it there
  abbrev pub line_plain : ℕ → ℕ → ℕ → S → Process S S → World S P Nothing → World S P Nothing
  line_plain t p alternate s q v = with_process p (λ _. as_is x (at_line_now t alternate s q)) v

  -- a member comes to the line in the plain run too
  pub accepted_line : (t p alternate : ℕ) (q : Process S S) (v : World S P Nothing) (s : S) (level : Level S) (c : ℕ) → last_of q.levels ≡ Some level
      → level.facts.conversation ≡ Some c
      → accepted (plain x) p (plain_levels x q.levels) (last_of (plain_levels x q.levels)) v (x.keep t alternate s, v.memory)
      ≡ at_test_line (plain x) c (line_plain t p alternate s q v)
  accepted_line t p alternate q v s level c last of_c =
      ap (λ (o : Option (Level P)). accepted (plain x) p (plain_levels x q.levels) o v (x.keep t alternate s, v.memory))
      (last_of-map (plain_level x) q.levels ∙ ap (option_map (plain_level x)) last)
      ∙ ap (λ (d : Option ℕ). accepted_at (plain x) p (plain_levels x q.levels) d v (x.keep t alternate s, v.memory)) of_c

  -- it is shown as it is, and it stands
  pub line_shown : (t alternate m : ℕ) (s : S) (q : Process S S) → length q.levels ≤ m
      → ShowsOne x m (at_line_now t alternate s q) (as_is x (at_line_now t alternate s q))
  line_shown t alternate m s q here = Alive refl (sym (shown_present x m (at_line_now t alternate s q) here))

  -- who has an innermost level has a level
  pub last_not_bare : (q : Process S S) (level : Level S) → last_of q.levels ≡ Some level → q.levels ≡ [] → ⊥
  last_not_bare q level last bare = none_some (ap (λ (ls : List (Level S)). last_of ls) (sym bare) ∙ last)

  -- its levels stay as they are
  pub same_levels : (t p alternate : ℕ) (s : S) (q : Process S S) (w : World S S Nothing) → slice_get w.processes p ≡ Some q
      → (z : Process S S) → slice_get w.processes p ≡ Some z → (c i : ℕ) → IsLevelOf c z.levels i → IsLevelOf c (at_line_now t alternate s q).levels i
  same_levels t p alternate s q w there z e c i l = subst (λ (a : Process S S). IsLevelOf c a.levels i) (some_same (sym e ∙ there)) l

  -- where not all stand
  not_all_pass : (c : ℕ) (v : World S P Nothing) (all : Bool) → all_stand (plain x) c v ≡ all → (all ≡ true → ⊥) → at_test_line (plain x) c v ≡ took v
  not_all_pass c v true e never = absurd (never refl)
  not_all_pass c v false e never = ap (λ (b : Bool). cond b (passed (Pass c (alternate_of (talk_at v c))) (all_leave (plain x) c v)) (took v)) e

module _ {S E P : Type 0} (x : Parts S E P) (Known : ℕ → Process S S → Type 0) (laws : IsErasable x Known) (start : World S P Nothing) where
  stands_kept : (t : ℕ) (past : List Told) (p : ℕ) (q : Process S S) (w : World S S Nothing) (alternate : ℕ)
      (message : Option ℤ) (s : S) (level : Level S) (c : ℕ) (f : ℕ → ℕ)
      → GroundedWithin x Known p (length q.levels) w → ShowsCut x start t past w f → StepsAt (whole x) p q w alternate message
      → x.step alternate (option_map x.environment (copy_of (last_of q.levels))) q.state message ≡ Held s
      → last_of q.levels ≡ Some level → level.facts.conversation ≡ Some c
      → all_stand (whole x) c (with_process p (λ _. at_line_now x t alternate s q) w) ≡ false
      → (outside : Bool) → nat_lt (f p) (length q.levels) ≡ outside
      → ShowsAfter x start t past (with_process p (λ _. at_line_now x t alternate s q) w) f
  stands_kept t past p q w alternate message s level c f ground old at e last of_c not_all true h =
      let runs = at.acts.runs in
      one_unseen x start t past p w f q (at_line_now x t alternate s q) old ground.ground.quiet runs.there runs.running refl
      (shown_outside x (f p) q (at_line_now x t alternate s q) [] (ltb-true (f p) (length q.levels) h) (sym (append-nil q.levels)) (sym runs.running))
      (last_not_bare x q level last)
  stands_kept t past p q w alternate message s level c f ground old at e last of_c not_all false h =
      let runs = at.acts.runs in
      let known : Known p q = (ground.ground.each p q runs.there).known in
      let held = held_at x Known laws p q w alternate message s known at e in
      let here : length q.levels ≤ f p = ltb-false (f p) (length q.levels) h in
      let v : World S P Nothing = old.world in
      let shows =
      one_shows x start p f f (at_line_now x t alternate s q)
      (as_is x (at_line_now x t alternate s q)) w.processes v.processes (λ _ _. refl)
      (line_shown x t alternate (f p) s q here) old.shows in
      TurnKept (one_kept x start t past p alternate w v f f q (at_line_now x t alternate s q)
      (as_is x (at_line_now x t alternate s q)) old.erased old.shows
      runs.there runs.running here
      (plain_holds x Known laws t p alternate q w v s runs.running at.acts.away held
      ∙ ap Some (accepted_line x t p alternate q v s level c last of_c
      ∙ not_all_pass x c (line_plain x t p alternate s q v) (all_stand (plain x) c (line_plain x t p alternate s q v)) refl
      (λ all. true≢false
      (sym (all_stand_shown x f c (with_process p (λ _. at_line_now x t alternate s q) w) (line_plain x t p alternate s q v) shows all)
      ∙ not_all))))
      (held_mail x Known laws t p alternate q w s held) (held_kept x Known laws t p alternate q w s held) (λ _ _. refl)
      (line_shown x t alternate (f p) s q here))

  -- a member comes to stand at the line, and another is not there yet
  pub erased_stands : Stands (whole x) (BothWithin (GroundedDuring x Known) (ErasedWithin x start)) (ErasedAfter x start)
  erased_stands t past p q w alternate message s level c h at e last of_c not_all = (
    h.1.0,
    λ f consistent. stands_kept t past p q w alternate message s level c f h.0
        (h.1.1 f (consistent_kept f w.processes (change_at p (λ _. at_line_now x t alternate s q) w.processes)
        (levels_changed p (at_line_now x t alternate s q) w.processes (same_levels x t p alternate s q w at.acts.runs.there)) consistent))
        at e last of_c not_all (nat_lt (f p) (length q.levels)) refl,
  )
