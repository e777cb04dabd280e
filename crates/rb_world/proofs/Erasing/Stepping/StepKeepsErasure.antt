-- A step that goes on keeps the invariant of erasure. A cut that shows the process at an older level sees nothing of the step;
-- from any other the plain run does the same step.
--
-- Here what is known of a process has to be known after its step as well (`KeepsEach`): the law `runs` then tells that who has a level
-- is not done, which a cut that shows an older level could not see.
use Rattle.std.proofs.Common.{◌≡◌, ◌⊎◌, ◌≤◌, ◌<◌, ℕ, ℤ, false, List, [], ◌∷◌, ◌++◌, length, get_or, option_map, slice_get, Option, Some, None, refl, sym, ap, ◌∙◌, subst, inl, inr, true≢false}
use Rattle.std.proofs.lemmas.Option.{slice_get_cases, slice_get_within}
use Rattle.rb_world.specs.Kind.{Went}
use Rattle.rb_world.specs.World.{Level, ProcessStatus, Running, Process, World, change_at, last_of, settled, copy_of}
use Rattle.rb_world.specs.Turn.{Told, moved_to, took}
use Rattle.rb_world.specs.Standing.{Each, is_failed}
use Rattle.rb_world.proofs.Keeping.StandingFacts.{status_at-whole}
use Rattle.rb_world.proofs.TurnFacts.{StepsAt}
use Rattle.rb_world.proofs.Keeping.Invariant.{BothWithin, Goes}
use Rattle.rb_world.proofs.Keeping.EachProcess.{KeepsEach}
use Rattle.rb_world.proofs.ListFacts.{Each-change_at, none_some, some_same}
use Rattle.rb_world.proofs.Erasing.ErasableKinds.{IsErasable, Moves, Nothing, Parts, plain, whole}
use Rattle.rb_world.proofs.Erasing.Showing.Cuts.{Alive, IsConsistent, Lost, Shows, ShowsOne, plain_levels, shown_at}
use Rattle.rb_world.proofs.Erasing.Showing.ErasureInvariant.{AllShown, ErasedAfter, ErasedWithin, Grounded, GroundedDuring, IsQuiet, ShowsAfter, ShowsCut, StaysShown, TurnKept}
use Rattle.rb_world.proofs.Erasing.Showing.ShownWorlds.{change_left_shown, change_shown}
use Rattle.rb_world.proofs.Erasing.Stepping.PresentProcess.{IsPresent, as_is, present_there, shown_present}
use Rattle.rb_world.proofs.Erasing.Stepping.SameStep.{went_shown}
use Rattle.rb_world.proofs.Erasing.Showing.OneProcessChanged.{consistent_before, kept_after}
use Rattle.rb_world.proofs.Erasing.Stepping.TakenWasSent.{sent_after_step}

module _ {S E P : Type 0} (x : Parts S E P) (Known : ℕ → Process S S → Type 0) (laws : IsErasable x Known)
    (keeps : KeepsEach (whole x) Known) (start : World S P Nothing) where
  module _ (t : ℕ) (past : List Told) (p : ℕ) (q : Process S S) (w : World S S Nothing) (alternate : ℕ) (message : Option ℤ)
      (s : S) (ground : Grounded x Known w) (all : AllShown x start t past w)
      (at : StepsAt (whole x) p q w alternate message)
      (step : x.step alternate (option_map x.environment (copy_of (last_of q.levels))) q.state message ≡ Went s tt) where
    abbrev Next : Process S S
    Next = settled (whole x) (x.keep t alternate s) q.levels

    abbrev NextPlain : Process S P
    NextPlain = settled (plain x) (x.keep t alternate s) (plain_levels x q.levels)

    abbrev After : World S S Nothing
    After = moved_to (whole x) p q.levels w (x.keep t alternate s, tt)

    known : Known p q
    known = (ground.each p q at.acts.runs.there).known

    moves : Moves x message q.state s
    moves = laws.goes p q w alternate message s known at step

    -- who has a level runs on
    next_runs : (n : ℕ) (level : Level S) → slice_get q.levels n ≡ Some level → Next.status ≡ Running
    next_runs n level there = laws.runs p Next n level (keeps.goes t p q w alternate message s tt known at step) there

    -- at an older level nothing changes
    older_one : (n : ℕ) (level : Level S) (u : Process S P) → slice_get q.levels n ≡ Some level → ShowsOne x n q u → ShowsOne x n Next u
    older_one n level u there (Alive alive e) =
        Alive (ap is_failed (next_runs n level there))
        (e ∙ (ap (shown_at x n q) there
        ∙ (ap (λ (status : ProcessStatus). shown_at x n (record { state = Next.state; levels = q.levels; at_line = false; status = status }) (Some level))
        (at.acts.runs.running ∙ sym (next_runs n level there))
        ∙ sym (ap (shown_at x n Next) there))))
    older_one n level u there (Lost failed state line own) =
        absurd (true≢false (sym failed ∙ ap is_failed at.acts.runs.running))

    one_is : (one : Process S S) → slice_get w.processes p ≡ Some one → q ≡ one
    one_is one e = some_same (sym at.acts.runs.there ∙ e)

    older_shows : (f : ℕ → ℕ) (level : Level S) → slice_get q.levels (f p) ≡ Some level → (us : List (Process S P)) → Shows x f w.processes us
        → Shows x f After.processes us
    older_shows f level there us shows =
        change_left_shown x f f p (λ _. Next) w.processes us (λ r one u other e e2 same. same)
        (λ one u e e2 same. older_one (f p) level u there (subst (λ (z : Process S S). ShowsOne x (f p) z u) (sym (one_is one e)) same)) shows

    still_quiet : (n : ℕ) (level : Level S) → slice_get q.levels n ≡ Some level → Each (IsQuiet x) After.processes
    still_quiet n level there =
        Each-change_at (IsQuiet x) p (λ _. Next) w.processes ground.quiet
        (λ one e none. absurd (none_some (sym (ap (λ (ls : List (Level S)). slice_get ls n) none) ∙ there)))

    cut_before : (f : ℕ → ℕ) → IsConsistent f After.processes → ShowsCut x start t past w f
    cut_before f consistent = all f (consistent_before f p q Next w.processes at.acts.runs.there refl consistent)

    older : (f : ℕ → ℕ) (level : Level S) → slice_get q.levels (f p) ≡ Some level → ShowsCut x start t past w f → ShowsAfter x start t past After f
    older f level there cut = StaysShown (still_quiet (f p) level there) (record {
      world = cut.world;
      shows = older_shows f level there cut.world.processes cut.shows;
      erased = cut.erased;
    })

    -- in the present both go on
    present_shows : (f : ℕ → ℕ) → length q.levels ≤ f p → (us : List (Process S P)) → Shows x f w.processes us
        → Shows x f After.processes (change_at p (λ _. NextPlain) us)
    present_shows f past_all us shows =
        change_shown x f f p (λ _. Next) (λ _. NextPlain) w.processes us (λ r one u other e e2 same. same)
        (λ one u e e2 same. Alive (status_at-whole (x.want Next.state)) (sym (shown_present x (f p) Next past_all))) shows

    next_kept : x.kept NextPlain.state ≡ x.kept q.state ++ (t, alternate) ∷ []
    next_kept = (laws.settles (x.keep t alternate s)).kept
        ∙ (laws.keeps t alternate s ∙ ap (λ (turns : List (ℕ × ℕ)). turns ++ (t, alternate) ∷ []) moves.kept)

    next_sent : (c : ℕ) → x.sent NextPlain.state c ≡ x.sent s c
    next_sent c = (laws.settles (x.keep t alternate s)).mail.sent c ∙ (laws.keeps_mail t alternate s).sent c

    next_taken : (c : ℕ) → x.taken NextPlain.state c ≡ x.taken s c
    next_taken c = (laws.settles (x.keep t alternate s)).mail.taken c ∙ (laws.keeps_mail t alternate s).taken c

    present : (f : ℕ → ℕ) → IsConsistent f w.processes → length q.levels ≤ f p → ShowsCut x start t past w f → ShowsAfter x start t past After f
    present f consistent past_all cut =
        let here : IsPresent x Known f p q w cut.world = record {
          there = at.acts.runs.there;
          running = at.acts.runs.running;
          present = past_all;
          shows = cut.shows;
          consistent = consistent;
          grounded = ground.each;
        } in
        let there : slice_get cut.world.processes p ≡ Some (as_is x q) = present_there x Known f p q w cut.world here in
        TurnKept (record {
          old = cut.world;
          erased = cut.erased;
          process = p;
          alternate = alternate;
          moved = took (moved_to (plain x) p (plain_levels x q.levels) cut.world (x.keep t alternate s, tt));
          moves = went_shown x Known laws f p q w cut.world here t alternate message s at step;
          shows = present_shows f past_all cut.world.processes cut.shows;
          keeps = kept_after x p (as_is x q) NextPlain ((t, alternate) ∷ []) cut.world.processes there next_kept;
          here = slice_get_within cut.world.processes p (as_is x q) there;
          sent = sent_after_step x Known laws f p q w cut.world here cut.erased.sent message s NextPlain.state NextPlain at.ready moves next_sent next_taken refl;
        })

    goes_one : (f : ℕ → ℕ) → IsConsistent f After.processes → ShowsAfter x start t past After f
    goes_one f consistent = by (slice_get_cases q.levels (f p)).1
      where
        by : ((level : Level S) × (f p < length q.levels) × (slice_get q.levels (f p) ≡ Some level) × (get_or q.levels (f p) level ≡ level))
            ⊎ ((length q.levels ≤ f p) × (slice_get q.levels (f p) ≡ None))
            → ShowsAfter x start t past After f
        by (inl (level, _, there, _)) = older f level there (cut_before f consistent)
        by (inr (past_all, _)) =
            present f (consistent_before f p q Next w.processes at.acts.runs.there refl consistent) past_all (cut_before f consistent)

  -- a step that goes on
  pub erased_goes : Goes (whole x) (BothWithin (GroundedDuring x Known) (ErasedWithin x start)) (ErasedAfter x start)
  erased_goes t past p q w alternate message s m h at step =
      (h.1.0, goes_one t past p q w alternate message s h.0.ground h.1.1 at step)
