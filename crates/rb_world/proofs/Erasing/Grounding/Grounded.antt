-- The first invariant of erasure: every world of a run is grounded, where what is known of each process is kept, and the laws hold.
use Rattle.std.proofs.Common.{◌≡◌, ℕ, List, [], ◌∷◌, length, map, option_map, position, slice_get, Option, Some, refl, sym, ap, ◌∙◌, subst, true≢false, suc-ne-zero}
use Rattle.rb_world.specs.World.{Level, Process, World, change_at, is_of, settled, with_process}
use Rattle.rb_world.specs.Reject.{all_back, fallen, parent_of, put_back, raised, where_inside}
use Rattle.rb_world.specs.Turn.{freed, leaves, one_used, opening, stands_now, turn_used}
use Rattle.rb_world.specs.Nested.{HasOutside}
use Rattle.rb_world.proofs.TurnFacts.{RunsAt}
use Rattle.rb_world.proofs.Keeping.Invariant.{IsInvariant}
use Rattle.rb_world.proofs.Keeping.EachProcess.{KeepsEach, settled_each}
use Rattle.rb_world.proofs.Keeping.StandingFacts.{status_at-whole}
use Rattle.rb_world.proofs.ListFacts.{Each-change_at, Each-map, none_some, slice_get-change_at, some_same}
use Rattle.rb_world.proofs.Erasing.ErasableKinds.{Nothing, Parts, whole, IsErasable}
use Rattle.rb_world.proofs.Erasing.Showing.ErasureInvariant.{IsGrounded, IsQuiet, IsSpentOut, NoLevel, Grounded, GroundedWithin, StillGrounded, GroundedBefore, GroundedDuring, GroundedAfter}
use Rattle.rb_world.proofs.Erasing.Grounding.GroundedFacts.{used-grounded, raised-grounded, back-grounded, goes-grounded, accepts-grounded, stands-grounded, leaves-grounded, opens-grounded, falls-grounded, freed-grounded, freed-quiet}
use Rattle.rb_world.proofs.Erasing.Grounding.GroundedWorlds.{Each-becomes, reset-breaks, first-breaks, next-breaks, broken-breaks, opening-breaks, back-quiet, place-quiet, map_none, spent_one, set-grounded, all_back-grounded, all_raised-grounded, all_broken-grounded, falls_empty}

module _ {S E P : Type 0} (x : Parts S E P) where
  none_there : (levels : List (Level S)) → length levels ≡ 0 → levels ≡ []
  none_there [] e = refl
  none_there (l ∷ levels) e = absurd (suc-ne-zero (length levels) e)

  -- no level is left where none was
  nothing_left : (p : ℕ) (q r : Process S S) (qs : List (Process S S)) → slice_get qs p ≡ Some q
      → slice_get (change_at p (λ _. turn_used q) qs) p ≡ Some r
      → length q.levels ≡ 0 → IsSpentOut r
  nothing_left p q r qs there e none =
      subst (λ (z : Process S S). IsSpentOut z)
      (some_same (sym (slice_get-change_at p (λ _. turn_used q) qs ∙ ap (option_map (λ _. turn_used q)) there) ∙ e))
      (NoLevel (ap (map one_used) (none_there q.levels none)))

  -- who has a parent is not the outermost
  inner_has_outer : (c parent j : ℕ) (levels : List (Level S)) → parent_of (slice_get x.groups c) ≡ Some parent → j ≡ 0
      → HasOutside (parent_of (slice_get x.groups c)) levels j → ⊥
  inner_has_outer c parent j levels outside none h =
      subst (λ (n : ℕ). HasOutside (Some parent) levels n) none (subst (λ (o : Option ℕ). HasOutside o levels j) outside h)

  -- one level is left, and was put back
  one_left : (p j : ℕ) (q r : Process S S) (level : Level S) (qs : List (Process S S)) → slice_get qs p ≡ Some q → slice_get q.levels j ≡ Some level
      → slice_get (change_at p (put_back (whole x) j) qs) p ≡ Some r → j ≡ 0 → IsSpentOut r
  one_left p j q r level qs there place e none =
      subst (λ (z : Process S S). IsSpentOut z)
      (some_same (sym (slice_get-change_at p (put_back (whole x) j) qs ∙ ap (option_map (put_back (whole x) j)) there) ∙ e))
      (subst (λ (n : ℕ). IsSpentOut (put_back (whole x) n q)) (sym none)
      (spent_one x q level (subst (λ (n : ℕ). slice_get q.levels n ≡ Some level) none place)))

module _ {S E P : Type 0} {x : Parts S E P} {Known : ℕ → Process S S → Type 0} (keeps : KeepsEach (whole x) Known) (laws : IsErasable x Known) where
  -- once process p was changed, still grounded
  still_set : (p : ℕ) (q : Process S S) (w : World S S Nothing) → Grounded x Known w → IsGrounded x Known p q
      → StillGrounded x Known (with_process p (λ _. q) w)
  still_set p q w h new = record { each = set-grounded keeps laws p q w.processes h.each new; talks = h.talks }

  uses-grounded : (p : ℕ) (q : Process S S) (w : World S S Nothing) → Grounded x Known w → RunsAt p q w
      → GroundedWithin x Known p (length q.levels) (with_process p (λ _. turn_used q) w)
  uses-grounded p q w h runs = record {
    ground = record {
      each = set-grounded keeps laws p (turn_used q) w.processes h.each (used-grounded keeps laws p q (h.each p q runs.there));
      quiet = Each-change_at (IsQuiet x) p (λ _. turn_used q) w.processes h.quiet
          (λ _ _ e. h.quiet p q runs.there (map_none x q.levels e));
      talks = h.talks;
    };
    spent = λ r e none. nothing_left x p q r w.processes runs.there e none;
  }

  back_alone : (p : ℕ) (w : World S S Nothing) (j : ℕ) → Grounded x Known w → Grounded x Known (with_process p (put_back (whole x) j) w)
  back_alone p w j h = record {
    each = Each-change_at (IsGrounded x Known) p (put_back (whole x) j) w.processes h.each (λ q e. back-grounded keeps laws p j q (h.each p q e));
    quiet = Each-change_at (IsQuiet x) p (put_back (whole x) j) w.processes h.quiet (λ q e. back-quiet x p j q (h.quiet p q e));
    talks = h.talks;
  }

  back_together : (c : ℕ) (w : World S S Nothing) → Grounded x Known w → Grounded x Known (all_back (whole x) c w)
  back_together c w h = record {
    each = all_back-grounded keeps laws c w.processes h.each;
    quiet = Each-map (IsQuiet x) (where_inside (put_back (whole x)) c) w.processes h.quiet (λ r q _. place-quiet x r (position (is_of c) q.levels) q);
    talks = reset-breaks x c w.talks h.talks;
  }

  pub grounded_kept : IsInvariant (whole x) (GroundedBefore x Known) (GroundedDuring x Known) (GroundedAfter x Known)
  grounded_kept = record {
    rests = λ t past w h. record { each = h.each; talks = h.talks };
    uses = λ t past p q w h runs. uses-grounded p q w h runs;
    overruns = λ t past p q w j h runs e. record { ground = h.ground; spent = λ r there none. absurd (suc-ne-zero j none) };
    waits = λ t past p q w h runs e. record { each = h.ground.each; talks = h.ground.talks };
    goes = λ t past p q w a v s m h at e. still_set p (settled (whole x) (x.keep t a s) q.levels) w h.ground
        (goes-grounded keeps laws t p q w a v s (h.ground.each p q at.acts.runs.there) at e);
    opens = λ t past p q w f a h at. still_set p _ w h.ground
        (opens-grounded keeps laws t p q w f a (h.ground.each p q at.acts.runs.there) (h.ground.quiet p q at.acts.runs.there) at);
    accepts = λ t past p q w a v s l h at e _ _. still_set p _ w h.ground
        (accepts-grounded keeps laws t p q w a v s (h.ground.each p q at.acts.runs.there) at e);
    stands = λ t past p q w a v s l c h at e _ _ _. still_set p _ w h.ground
        (stands-grounded keeps laws t p q w a v s (h.ground.each p q at.acts.runs.there) at e);
    leaves = λ t past p q w a v s l c h at e _ _ _. record {
      each = Each-map (IsGrounded x Known) (leaves (whole x) c) (change_at p (λ _. stands_now (x.keep t a s) q.levels) w.processes)
          (set-grounded keeps laws p (stands_now (x.keep t a s) q.levels) w.processes h.ground.each
          (stands-grounded keeps laws t p q w a v s (h.ground.each p q at.acts.runs.there) at e))
          (λ r z _. leaves-grounded keeps laws r c z);
      talks = first-breaks x c w.talks h.ground.talks;
    };
    falls = λ t past p q w left cause h runs why. record {
      each = Each-change_at (IsGrounded x Known) p (fallen (whole x) cause) w.processes h.ground.each
          (λ z e. falls-grounded keeps laws p z cause (h.ground.each p z e)
          (subst (λ (y : Process S S). x.held y.state ≡ []) (some_same (sym runs.there ∙ e)) (falls_empty keeps laws p left cause q w h runs why)));
      talks = h.ground.talks;
    };
    tries_next = λ t past p q w j l h rejects _ _. record {
      each = Each-change_at (IsGrounded x Known) p (raised j) (change_at p (put_back (whole x) j) w.processes) (back_alone p w j h.ground).each
          (λ z e. raised-grounded keeps laws p j z ((back_alone p w j h.ground).each p z e));
      talks = h.ground.talks;
    };
    is_spent = λ t past p q w j l h rejects _ _. record {
      ground = back_alone p w j h.ground;
      spent = λ r e none. one_left x p j q r l w.processes rejects.runs.there rejects.place e none;
    };
    all_try_next = λ t past p q w j l c h rejects _ _. record {
      each = all_raised-grounded keeps laws c (all_back (whole x) c w).processes (back_together c w h.ground).each;
      talks = next-breaks x c (all_back (whole x) c w).talks (back_together c w h.ground).talks;
    };
    all_are_spent = λ t past p q w j l c parent h rejects of_c _ outside. record {
      ground = record {
        each = (back_together c w h.ground).each;
        quiet = (back_together c w h.ground).quiet;
        talks = first-breaks x c (all_back (whole x) c w).talks (back_together c w h.ground).talks;
      };
      spent = λ r e none. absurd (inner_has_outer x c parent j q.levels outside none
          (laws.nested p q (h.ground.each p q rejects.runs.there).known j c (record { level = l; there = rejects.place; of_it = of_c })));
    };
    breaks = λ t past p q w j l c h rejects _ _ alone. record {
      each = all_broken-grounded keeps laws c w.processes alone h.ground.each;
      talks = broken-breaks x c (all_back (whole x) c w).talks alone (back_together c w h.ground).talks;
    };
    is_gone = λ t past p q w j h runs e. record { each = h.ground.each; talks = h.ground.talks };
    releases = λ t past w one h e. record {
      each = Each-map (IsGrounded x Known) (freed (whole x)) w.processes h.each (λ r q _. freed-grounded keeps laws r q);
      quiet = Each-becomes (IsGrounded x Known) (IsQuiet x) (freed (whole x)) w.processes h.each (λ r q _ _. freed-quiet keeps laws r q);
      talks = h.talks;
    };
  }

  -- an opening world is grounded, where each process is known there, and no settled opening state holds a line
  pub opening_grounded : (states : List S) → ((r : ℕ) (s : S) → slice_get states r ≡ Some s → Known r (settled (whole x) s []))
      → ((r : ℕ) (s : S) → slice_get states r ≡ Some s → x.held (x.settle s) ≡ []) → Grounded x Known (opening (whole x) states tt)
  opening_grounded states known none = record {
    each = settled_each (whole x) (IsGrounded x Known) states (λ r s e. record {
      known = known r s e;
      in_order = λ i j outer inner le a b. absurd (none_some a);
      before_now = λ i level a. absurd (none_some a);
      outermost = λ level a. absurd (none_some a);
      bare = λ _. refl;
      lost = λ failed. absurd (true≢false (sym failed ∙ status_at-whole (x.want (x.settle s))));
    });
    quiet = settled_each (whole x) (IsQuiet x) states (λ r s e _. none r s e);
    talks = λ c talk e broken. absurd (true≢false (sym broken ∙ opening-breaks x c talk x.groups e));
  }
