-- The last member's test held, and all leave the conversation together (Randell 1975): the plain run does the same, or the cut sees
-- nothing of it.
use Rattle.std.proofs.Common.{◌≡◌, ◌≤◌, ◌<◌, ℕ, ℤ, Bool, true, false, nat_lt, List, [], ◌∷◌, ◌++◌, length, map, slice_get, Option, Some, refl, sym, ap, ◌∙◌, eq-eqb, ltb-true, ltb-false, arith, append-nil, suc-le-suc, le_trans, le_of_eq}
use Rattle.std.specs.Option.{option_map}
use Rattle.std.proofs.lemmas.Option.{slice_get_within}
use Rattle.rb_base.specs.declared.event.Event.TheVariants.{Pass}
use Rattle.rb_world.specs.Kind.{Held}
use Rattle.rb_world.specs.World.{Level, Process, World, is_number, last_of, talk_at, with_process, without_last, copy_of}
use Rattle.rb_world.specs.Standing.{Each}
use Rattle.rb_world.specs.Turn.{Told, all_leave, all_stand, alternate_of, is_last_of, leaves, passed, stands_at}
use Rattle.rb_world.specs.Plain.{plain_moves}
use Rattle.rb_world.proofs.TurnFacts.{StepsAt}
use Rattle.rb_world.proofs.ListFacts.{Each-change_at, slice_get-change_at}
use Rattle.rb_world.proofs.Keeping.Invariant.{BothWithin, Leaves}
use Rattle.rb_world.proofs.Keeping.EachProcess.{KeepsEach}
use Rattle.rb_world.proofs.Erasing.ErasableKinds.{Nothing, Parts, whole, plain, IsErasable}
use Rattle.rb_world.proofs.Erasing.Showing.Cuts.{Shows, IsConsistent}
use Rattle.rb_world.proofs.Erasing.Showing.ErasureInvariant.{GroundedWithin, GroundedDuring, IsErased, IsQuiet, KeepsTurn, ShowsAfter, StaysShown, TurnKept, AllShown, ErasedWithin, ErasedAfter}
use Rattle.rb_world.proofs.Erasing.Stepping.PresentProcess.{as_is}
use Rattle.rb_world.proofs.Erasing.Showing.ShownOlder.{present_there, shown_outside}
use Rattle.rb_world.proofs.Erasing.Showing.MailKept.{map-change_at, map-unseen, mail_both, mail_changed, mail_mapped, sent_kept}
use Rattle.rb_world.proofs.Erasing.Showing.ConsistentCuts.{consistent_kept, levels_changed}
use Rattle.rb_world.proofs.Erasing.Stepping.TurnOfOneProcess.{one_same, one_shows}
use Rattle.rb_world.proofs.LastLevels.{length-with_last}
use Rattle.rb_world.proofs.Erasing.Passing.SameAcceptanceTest.{held_at, held_kept, held_mail, plain_holds}
use Rattle.rb_world.proofs.Erasing.Passing.ArrivalKeepsErasure.{at_line_now, line_plain, accepted_line, line_shown, last_not_bare, same_levels}
use Rattle.rb_world.proofs.Erasing.Passing.AllOrNoneLeave.{StandsThere, before_leaving, leaving_at, all_older, all_present, older_consistent, present_before}
use Rattle.rb_world.proofs.Erasing.Passing.AllLeaveUnseen.{quiet_leaves, unseen_leaves}
use Rattle.rb_world.proofs.Erasing.Passing.AllLeaveInPlainRun.{all_pass, all_stand_plainly, kept_leaves, leaves_kept, leaves_mail}

module _ {S E P : Type 0} (x : Parts S E P) (Known : ℕ → Process S S → Type 0) (laws : IsErasable x Known)
    (keeps : KeepsEach (whole x) Known) (start : World S P Nothing) where
  module _ (t : ℕ) (past : List Told) (p : ℕ) (q : Process S S) (w : World S S Nothing) (alternate : ℕ) (message : Option ℤ)
      (s : S) (level : Level S) (c : ℕ) where
    -- the world with p at the line
    abbrev at_line : World S S Nothing
    at_line = with_process p (λ _. at_line_now x t alternate s q) w

    module _ (ground : GroundedWithin x Known p (length q.levels) w) (old : AllShown x start t past w)
        (at : StepsAt (whole x) p q w alternate message)
        (e : x.step alternate (option_map x.environment (copy_of (last_of q.levels))) q.state message ≡ Held s)
        (last : last_of q.levels ≡ Some level) (of_c : level.facts.conversation ≡ Some c) (all : all_stand (whole x) c at_line ≡ true) where
      known_here : Known p q
      known_here = (ground.ground.each p q at.acts.runs.there).known

      -- what is known of each holds of p at the line
      known_at_line : Each Known at_line.processes
      known_at_line = Each-change_at Known p (λ _. at_line_now x t alternate s q) w.processes (λ r z there. (ground.ground.each r z there).known)
          (λ _ _. keeps.stands t p q w alternate message s known_here at e)

      -- p stands there
      here_at_line : StandsThere c p at_line.processes (at_line_now x t alternate s q)
      here_at_line = record {
        there = slice_get-change_at p (λ _. at_line_now x t alternate s q) w.processes
            ∙ ap (option_map (λ _. at_line_now x t alternate s q)) at.acts.runs.there;
        stands = ap (is_last_of c) last ∙ ap (λ (d : Option ℕ). is_number d c) of_c ∙ eq-eqb c c refl;
      }

      -- a cut that is consistent with p at the line was so before
      before_line : (g : ℕ → ℕ) → IsConsistent g at_line.processes → IsConsistent g w.processes
      before_line g consistent = consistent_kept g w.processes at_line.processes
          (levels_changed p (at_line_now x t alternate s q) w.processes (same_levels x t p alternate s q w at.acts.runs.there)) consistent

      -- who is at the line has a level, so nobody has anything to release
      quiet_at_line : Each (IsQuiet x) at_line.processes
      quiet_at_line = Each-change_at (IsQuiet x) p (λ _. at_line_now x t alternate s q) w.processes ground.ground.quiet
          (λ _ _ bare. absurd (last_not_bare x q level last bare))

      -- a cut that shows p further out does not see it come to the line
      unseen_at_line : (f : ℕ → ℕ) (us : List (Process S P)) → f p < length (without_last q.levels)
          → Shows x f w.processes us → Shows x f at_line.processes us
      unseen_at_line f us h shows =
          one_same x start p f q (at_line_now x t alternate s q) w.processes us at.acts.runs.there at.acts.runs.running refl
          (shown_outside x (f p) q (at_line_now x t alternate s q) []
          (omega (arith, h, length-with_last q.levels level last)) (sym (append-nil q.levels))
          (sym at.acts.runs.running)) shows

      -- the plain run does the same, where the cut before shows p as it is
      turn_kept : (f g : ℕ → ℕ) (v : World S P Nothing) → IsErased x start t past v → Shows x g w.processes v.processes → length q.levels ≤ g p
          → all_stand (plain x) c (line_plain x t p alternate s q v) ≡ true
          → Shows x f (map (leaves (whole x) c) at_line.processes) (map (leaves (plain x) c) (line_plain x t p alternate s q v).processes)
          → KeepsTurn x start t past (all_leave (whole x) c at_line) f
      turn_kept f g v erased shows here all' shows' =
          let runs = at.acts.runs in
          let held = held_at x Known laws p q w alternate message s known_here at e in
          let there' : slice_get v.processes p ≡ Some (as_is x q) =
          present_there x g p q w.processes v.processes shows runs.there runs.running here in
          let line : World S P Nothing = line_plain x t p alternate s q v in
          record {
            old = v;
            erased = erased;
            process = p;
            alternate = alternate;
            moved = passed (Pass c (alternate_of (talk_at line c))) (all_leave (plain x) c line);
            moves = ap (plain_moves (plain x) (record { turn = t; process = p; alternate = alternate }) v) there'
                ∙ plain_holds x Known laws t p alternate q w v s runs.running at.acts.away held
                ∙ ap Some (accepted_line x t p alternate q v s level c last of_c ∙ all_pass x c line all');
            shows = shows';
            keeps = map-unseen (λ (u : Process S P). x.kept u.state) (leaves (plain x) c) line.processes
                (λ u. leaves_kept x c (λ a. (laws.settles a).kept) u (stands_at c u) refl)
                ∙ map-change_at (λ (u : Process S P). x.kept u.state) p (as_is x (at_line_now x t alternate s q))
                (λ turns. turns ++ (t, alternate) ∷ [])
                v.processes (as_is x q) there' (held_kept x Known laws t p alternate q w s held);
            here = slice_get_within v.processes p (as_is x q) there';
            sent = sent_kept x v (all_leave (plain x) c line)
                (mail_both x v.processes line.processes (map (leaves (plain x) c) line.processes)
                (mail_changed x p (as_is x q) (as_is x (at_line_now x t alternate s q)) v.processes there'
                (held_mail x Known laws t p alternate q w s held))
                (mail_mapped x (leaves (plain x) c) line.processes
                (λ u. leaves_mail x c (λ a. (laws.settles a).mail) u (stands_at c u) refl))) erased.sent;
          }

      module _ (f : ℕ → ℕ) (consistent : IsConsistent f (map (leaves (whole x) c) at_line.processes)) where
        all_outside : f p < length (without_last q.levels) → ShowsAfter x start t past (all_leave (whole x) c at_line) f
        all_outside h =
            let older = all_older x Known laws c at_line.processes known_at_line f consistent p (at_line_now x t alternate s q) here_at_line h in
            let shows = old f (before_line f (older_consistent x Known laws c at_line.processes known_at_line f consistent older)) in
            StaysShown (quiet_leaves x Known laws c at_line.processes known_at_line keeps f older quiet_at_line)
            (record {
              world = shows.world;
              shows = unseen_leaves x Known laws c at_line.processes known_at_line keeps f older shows.world.processes
                  (unseen_at_line f shows.world.processes h shows.shows);
              erased = shows.erased;
            })

        all_here : length (without_last q.levels) ≤ f p → ShowsAfter x start t past (all_leave (whole x) c at_line) f
        all_here h =
            let here : (r : ℕ) (z : Process S S) → StandsThere c r at_line.processes z → length (without_last z.levels) ≤ f r =
            λ r z two. all_present x Known laws c at_line.processes known_at_line f consistent p
            (at_line_now x t alternate s q) here_at_line h r z two
            (nat_lt (f r) (length (without_last z.levels))) refl in
            let g : ℕ → ℕ = before_leaving c at_line.processes f in
            let shows = old g (before_line g (present_before x Known laws c at_line.processes known_at_line f consistent here all)) in
            let here' : length q.levels ≤ g p = le_trans (le_of_eq (length-with_last q.levels level last)) (le_trans (suc-le-suc h)
            (le_of_eq (sym (leaving_at c p at_line.processes f (at_line_now x t alternate s q) true here_at_line.there here_at_line.stands)))) in
            let line = one_shows x start p g g (at_line_now x t alternate s q)
            (as_is x (at_line_now x t alternate s q)) w.processes shows.world.processes
            (λ _ _. refl) (line_shown x t alternate (g p) s q here') shows.shows in
            TurnKept (turn_kept f g shows.world shows.erased shows.shows here'
            (all_stand_plainly x Known laws c at_line.processes known_at_line f here (line_plain x t p alternate s q shows.world) line all)
            (kept_leaves x Known laws c at_line.processes known_at_line f here (line_plain x t p alternate s q shows.world).processes line))

        leaves_shown : (outside : Bool) → nat_lt (f p) (length (without_last q.levels)) ≡ outside
            → ShowsAfter x start t past (all_leave (whole x) c at_line) f
        leaves_shown true h = all_outside (ltb-true (f p) (length (without_last q.levels)) h)
        leaves_shown false h = all_here (ltb-false (f p) (length (without_last q.levels)) h)

  -- all leave together
  pub erased_leaves : Leaves (whole x) (BothWithin (GroundedDuring x Known) (ErasedWithin x start)) (ErasedAfter x start)
  erased_leaves t past p q w alternate message s level c h at e last of_c all = (
    h.1.0,
    λ f consistent. leaves_shown t past p q w alternate message s level c h.0 h.1.1 at e last of_c all f consistent
        (nat_lt (f p) (length (without_last q.levels))) refl,
  )
