-- A world stands as it is written of it.
use Rattle.std.proofs.Common.{◌≡◌, ◌<◌, ℕ, zero, suc, ◌+◌, ℤ, Bool, true, false, ◌&&◌, cond, List, [], ◌∷◌, ◌++◌, codes, length, get_or, Option, Some, None, slice_get, refl, sym, ap, ◌∙◌, subst, arith, length-append, nat_eq}
use Rattle.std.proofs.lemmas.Bool.{eqb-false}
use Rattle.std.specs.List.{list_all}
use Rattle.std.proofs.lemmas.List.Sums.{AllPass-from_list_all}
use Rattle.std.proofs.lemmas.Option.{get_or_from_slice_get, slice_get_within}
use Rattle.rb_syntax.specs.Tree.{Tree}
use Rattle.rb_world.specs.Kind.{Kind, Want, Trapped, Went, Held}
use Rattle.rb_world.specs.Text.{Naming}
use Rattle.rb_world.specs.Turn.{by_status, moves, turn}
use Rattle.rb_world.specs.World.{Process, ProcessStatus, Running, Finished, FailedWith, World}
use Rattle.rb_meaning.specs.Meaning.{environment_of, naming_of, run_of, tree_kind}
use Rattle.rb_meaning.specs.State.{State}
use Rattle.rb_meaning.specs.Step.{Result_of_step, step, wants_first}
use Rattle.rb_meaning.proofs.Nesting.StepsKeepRules.{StepsTo}
use Rattle.rb_meaning.proofs.Trees.MailOfSteps.{Posts, Quiet, Posted, Collected}
use Rattle.rb_meaning.proofs.Trees.StepsChangeMail.{IsPassed, steps_post}
use Rattle.rb_stuck.specs.AsTold.{GoesOn, NobodyGoesOn, StandsAsTold, StandsAsWritten}
use Rattle.rb_stuck.specs.Programs.{tree_standing_text}
use Rattle.rb_stuck.specs.Stuck.{ChangesNoMore, all_still, has_ended, is_final, is_still, is_stuck, standing_text, stands_still, text_of, waiting_text}
use Rattle.rb_stuck.specs.declared.standing.Standing.TheVariants.{Ended, Stuck, Open}
use Rattle.rb_stuck.proofs.Freed.{tree_runs_freed}
use Rattle.rb_stuck.proofs.Moving.{CountsSame, CountsTaken, moving_changes}
use Rattle.rb_stuck.proofs.Still.Stays.{each_still, stuck_stays}
use Rattle.rb_stuck.proofs.Still.Turns.{AllFreed, still_stays}

wrong : true ≡ false → ⊥
wrong e = cc

-- the three words begin with three letters
abbrev first_of : List ℕ → ℕ
first_of text = get_or text 0 0

not_both : {text : List ℕ} (a b : List ℕ) → nat_eq (first_of a) (first_of b) ≡ false → text ≡ a → text ≡ b → ⊥
not_both a b differ one other = eqb-false (first_of a) (first_of b) differ (ap first_of (sym one ∙ other))

module _ {S C M : Type 0} (k : Kind S C M) (count : S → ℕ) (counts : CountsTaken k count) (names : Naming) (t : ℕ) (w : World S C M)
    (free : AllFreed k w.processes) where
  no_more : (p : ℕ) → stands_still k t w p ≡ true → ChangesNoMore w (turn k t p w)
  no_more p still = let stays = still_stays k t p w free still in (stays.tells, stays.alike)

  -- who has ended is idle
  ended_idle : (p : ℕ) (q : Process S C) (status : ProcessStatus) → is_final status ≡ true → is_still (by_status k t p q w status).kind ≡ true
  ended_idle p q Running e = absurd (wrong (sym e))
  ended_idle p q Finished e = refl
  ended_idle p q (FailedWith cause) e = refl

  ended_still : list_all has_ended w.processes ≡ true → (p : ℕ) → stands_still k t w p ≡ true
  ended_still all p = by (slice_get w.processes p) refl
    where
      by : (o : Option (Process S C)) → slice_get w.processes p ≡ o → is_still (moves k t p w o).kind ≡ true
      by None there = refl
      by (Some q) there =
          ended_idle p q q.status
          (subst (λ (one : Process S C). has_ended one ≡ true) (get_or_from_slice_get w.processes p q q there)
          (AllPass-from_list_all has_ended w.processes all p q (slice_get_within w.processes p q there)))

  -- where not all stand still, one of them does not
  one_moves : (n : ℕ) → all_still k t w n ≡ false → (p : ℕ) × (p < n) × (stands_still k t w p ≡ false)
  one_moves zero e = absurd (wrong e)
  one_moves (suc n) e = by (all_still k t w n) refl (one_moves n) e
    where
      by : (b : Bool) → all_still k t w n ≡ b → (all_still k t w n ≡ false → (p : ℕ) × (p < n) × (stands_still k t w p ≡ false))
          → (b && stands_still k t w n) ≡ false → (p : ℕ) × (p < suc n) × (stands_still k t w p ≡ false)
      by true all below last = (n, omega arith, last)
      by false all below last = let one = below all in (one.0, omega (arith, one.1), one.2)

  someone_goes_on : is_stuck k t w ≡ false → GoesOn k t w
  someone_goes_on moves_on =
      let one = one_moves (length w.processes) moves_on in
      record { process = one.0; is_there = one.1; changes = moving_changes k count counts t one.0 w one.2 }

  nobody_goes_on : list_all has_ended w.processes ≡ false → is_stuck k t w ≡ true → NobodyGoesOn k t w
  nobody_goes_on some stuck = record { some_run = some; all_stay = λ p. no_more p (each_still k t w stuck p) }

  stands_by : (ended stuck : Bool) → list_all has_ended w.processes ≡ ended → is_stuck k t w ≡ stuck → (text : List ℕ)
      → text ≡ text_of k names w.processes (cond ended Ended (cond stuck Stuck Open)) → StandsAsWritten k t w text
  stands_by true stuck all e text is = record {
    ended = (λ _. all, λ _. is);
    stuck = (
      λ begins. absurd (not_both (codes "ended\n") (codes "stuck\n" ++ begins.0) refl is begins.1),
      λ nobody. absurd (wrong (sym all ∙ nobody.some_run)),
    );
    stays = λ begins. absurd (not_both (codes "ended\n") (codes "stuck\n" ++ begins.0) refl is begins.1);
    goes_on = (
      λ other. absurd (not_both (codes "ended\n") (codes "open\n") refl is other),
      λ goes. absurd (goes.changes (no_more goes.process (ended_still all goes.process))),
    );
  }
  stands_by false true some stuck text is = record {
    ended = (
      λ other. absurd (not_both (codes "stuck\n" ++ waiting_text k names 0 w.processes) (codes "ended\n") refl is other),
      λ all. absurd (wrong (sym all ∙ some)),
    );
    stuck = (λ _. nobody_goes_on some stuck, λ _. (waiting_text k names 0 w.processes, is));
    stays = λ _ turns. stuck_stays k t w stuck free t turns;
    goes_on = (
      λ other. absurd (not_both (codes "stuck\n" ++ waiting_text k names 0 w.processes) (codes "open\n") refl is other),
      λ goes. absurd (goes.changes (no_more goes.process (each_still k t w stuck goes.process))),
    );
  }
  stands_by false false some moves_on text is = record {
    ended = (λ other. absurd (not_both (codes "open\n") (codes "ended\n") refl is other), λ all. absurd (wrong (sym all ∙ some)));
    stuck = (
      λ begins. absurd (not_both (codes "open\n") (codes "stuck\n" ++ begins.0) refl is begins.1),
      λ nobody. let goes = someone_goes_on moves_on in absurd (goes.changes (nobody.all_stay goes.process)),
    );
    stays = λ begins. absurd (not_both (codes "open\n") (codes "stuck\n" ++ begins.0) refl is begins.1);
    goes_on = (λ _. someone_goes_on moves_on, λ _. is);
  }

  -- what is written of a world is so
  pub stands_as_written : (text : List ℕ) → text ≡ standing_text k names t w → StandsAsWritten k t w text
  stands_as_written text is = stands_by (list_all has_ended w.processes) (is_stuck k t w) refl refl text is

-- The turns of a tree that are kept are those that were taken.
abbrev taken : State → ℕ
taken s = length s.kept

posts_kept : (want : Want) (message : Option ℤ) (s s' : State) → Posts want message s s' → s'.kept ≡ s.kept
posts_kept want message s s' (Quiet sent takes kept no_sends no_takes) = kept
posts_kept want message s s' (Posted d v wants sent takes kept) = kept
posts_kept want message s s' (Collected d v wants there sent takes kept) = kept

step_counts : (want : Want) (message : Option ℤ) (s : State) (came : Result_of_step) → StepsTo (Posts want message s) (IsPassed want s) came
    → CountsSame taken (taken s) came
step_counts want message s (Trapped cause) did = tt
step_counts want message s (Went s' memory) did = ap length (posts_kept want message s s' did)
step_counts want message s (Held s') did = ap length did.kept

tree_counts : (tree : Tree) → CountsTaken (tree_kind tree) taken
tree_counts tree = record {
  keeps = λ t alternate s memory. length-append s.kept ((t, alternate) ∷ []);
  settles = λ copy s. refl;
  enters = λ s. refl;
  accepts = λ s. refl;
  releases = λ s. refl;
  steps = λ alternate copy s message memory.
      step_counts (wants_first tree s.items) message s (step tree alternate (environment_of copy) s message)
      (steps_post tree alternate (environment_of copy) s message s.items);
}

-- what is written of how a tree's run stands is so
pub standing_told : (tree : Tree) (turns text : List ℕ) → text ≡ tree_standing_text tree turns → StandsAsTold tree turns text
standing_told tree turns text is =
    stands_as_written (tree_kind tree) taken (tree_counts tree) (naming_of tree) (length turns + 1) (run_of tree turns).0
    (tree_runs_freed tree turns) text is
