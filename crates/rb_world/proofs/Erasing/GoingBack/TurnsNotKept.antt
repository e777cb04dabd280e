-- The laws of erasure in which nothing is kept: the same plain worlds show the cuts of the world after. Who rests or waits, counts a
-- turn, or goes back, alone or with all that are inside a conversation.
use Rattle.std.proofs.Common.{◌≡◌, ℕ, zero, suc, Bool, true, false, cond, nat_eq, List, [], ◌∷◌, map, position, slice_get, Option, Some, None, refl, sym, ap, ◌∙◌, eqb-true}
use Rattle.rb_world.specs.World.{Level, Process, World, change_at, is_of, with_process}
use Rattle.rb_world.specs.Reject.{all_back, at_place, next_alternate, put_back, raised, where_inside}
use Rattle.rb_world.specs.Standing.{Each}
use Rattle.rb_world.specs.Turn.{Told, one_used, turn_used}
use Rattle.rb_world.proofs.TurnFacts.{RejectsAt, all_next, all_spent}
use Rattle.rb_world.proofs.Keeping.Invariant.{BothBetween, BothWithin, Rests, Uses, Overruns, Waits, IsGone, TriesNext, IsSpent, AllTryNext, AllSpent}
use Rattle.rb_world.proofs.Erasing.ErasableKinds.{Nothing, Parts, whole}
use Rattle.rb_world.proofs.Erasing.Showing.ErasureInvariant.{IsQuiet, AllShown, AllShownAfter, StaysShown, Grounded, GroundedBefore, GroundedDuring, ErasedBefore, ErasedWithin, ErasedAfter}
use Rattle.rb_world.proofs.Erasing.Showing.OtherProcessesInCuts.{IsChanged, only_at, is_changed_at, is_changed_each}
use Rattle.rb_world.proofs.Erasing.Showing.CutsAlike.{unmarked_level, unmarked, all_shown_alike}
use Rattle.rb_world.proofs.Erasing.Showing.CutsWhenPutBack.{back_at, all_shown_back}
use Rattle.rb_world.proofs.Erasing.GoingBack.PlacesGoneBackTo.{alone_at, line_of, alone_changed, alone_line, together_changed, together_line}
use Rattle.rb_world.proofs.ListFacts.{some_same, Each-change_at, Each-map}
use Rattle.rb_world.proofs.Erasing.Grounding.GroundedWorlds.{back-quiet}

-- a turn that a level used is not seen
used_alike : {C : Type 0} (levels : List (Level C)) → map unmarked_level (map one_used levels) ≡ map unmarked_level levels
used_alike [] = refl
used_alike {C} (level ∷ levels) = ap (λ (ls : List (Level C)). unmarked_level level ∷ ls) (used_alike levels)

pub turn_used_alike : {S C : Type 0} (q : Process S C) → unmarked (turn_used q) ≡ unmarked q
turn_used_alike {C = C} q =
    ap (λ (ls : List (Level C)). record { state = q.state; levels = ls; at_line = q.at_line; status = q.status }) (used_alike q.levels)

-- nor is the alternate that a level tries
next_alike : {C : Type 0} (j : ℕ) (levels : List (Level C)) → map unmarked_level (change_at j next_alternate levels) ≡ map unmarked_level levels
next_alike j [] = refl
next_alike zero (level ∷ levels) = refl
next_alike {C} (suc j) (level ∷ levels) = ap (λ (ls : List (Level C)). unmarked_level level ∷ ls) (next_alike j levels)

pub raised_alike : {S C : Type 0} (j : ℕ) (q : Process S C) → unmarked (raised j q) ≡ unmarked q
raised_alike {C = C} j q =
    ap (λ (ls : List (Level C)). record { state = q.state; levels = ls; at_line = q.at_line; status = q.status }) (next_alike j q.levels)

raised_at_alike : {S C : Type 0} (place : Option ℕ) (q : Process S C) → unmarked (at_place raised place q) ≡ unmarked q
raised_at_alike None q = refl
raised_at_alike (Some j) q = raised_alike j q

-- one process that looks as it did
only_alike : {S C : Type 0} (p : ℕ) (f : Process S C → Process S C) (r : ℕ) (q : Process S C) (here : Bool) → nat_eq r p ≡ here
    → (r ≡ p → unmarked (f q) ≡ unmarked q) → unmarked (cond here (f q) q) ≡ unmarked q
only_alike p f r q true e same = same (eqb-true r p e)
only_alike p f r q false e same = refl

-- nothing comes of a change of no element
pub change_none : {A : Type 0} (j : ℕ) (f : A → A) (xs : List A) → change_at j f xs ≡ [] → xs ≡ []
change_none j f [] e = refl
change_none zero f (x ∷ xs) e = absurd cc
change_none (suc j) f (x ∷ xs) e = absurd cc

-- who has no level holds no line still
module _ {S E P : Type 0} (x : Parts S E P) where
  pub raised_quiet : (r j : ℕ) (q : Process S S) → IsQuiet x r q → IsQuiet x r (raised j q)
  raised_quiet r j q quiet none = quiet (change_none j next_alternate q.levels none)

  at_place_quiet : (f : ℕ → Process S S → Process S S) (r : ℕ) (place : Option ℕ) (q : Process S S) → ((j : ℕ) → IsQuiet x r q → IsQuiet x r (f j q))
      → IsQuiet x r q → IsQuiet x r (at_place f place q)
  at_place_quiet f r None q one quiet = quiet
  at_place_quiet f r (Some j) q one quiet = one j quiet

  pub inside_quiet : (f : ℕ → Process S S → Process S S) (c : ℕ) (qs : List (Process S S))
      → ((r j : ℕ) (q : Process S S) → IsQuiet x r q → IsQuiet x r (f j q))
      → Each (IsQuiet x) qs → Each (IsQuiet x) (map (where_inside f c) qs)
  inside_quiet f c qs one quiet = Each-map (IsQuiet x) (where_inside f c) qs quiet
      (λ r q at. at_place_quiet f r (position (is_of c) q.levels) q (λ j. one r j q))

  pub one_quiet : (f : Process S S → Process S S) (p : ℕ) (qs : List (Process S S)) → ((q : Process S S) → IsQuiet x p q → IsQuiet x p (f q))
      → Each (IsQuiet x) qs → Each (IsQuiet x) (change_at p f qs)
  one_quiet f p qs one quiet = Each-change_at (IsQuiet x) p f qs quiet (λ q at. one q (quiet p q at))

module _ {S E P : Type 0} (x : Parts S E P) (Known : ℕ → Process S S → Type 0) (start : World S P Nothing) where
  -- a world in which nobody has a line to release
  pub stays_shown : (t : ℕ) (past : List Told) (w : World S S Nothing) → Each (IsQuiet x) w.processes
      → AllShown x start t past w → AllShownAfter x start t past w
  stays_shown t past w quiet all f consistent = StaysShown quiet (all f consistent)

  pub erased_rests : Rests (BothBetween (GroundedBefore x Known) (ErasedBefore x start)) (ErasedAfter x start)
  erased_rests t past w h = (h.1.0, stays_shown t past w h.0.quiet h.1.1)

  pub erased_waits : Waits (BothWithin (GroundedDuring x Known) (ErasedWithin x start)) (ErasedAfter x start)
  erased_waits t past p q w h runs none_over = (h.1.0, stays_shown t past w h.0.ground.quiet h.1.1)

  pub erased_is_gone : IsGone (BothWithin (GroundedDuring x Known) (ErasedWithin x start)) (ErasedAfter x start)
  erased_is_gone t past p q w j h runs gone = (h.1.0, stays_shown t past w h.0.ground.quiet h.1.1)

  pub erased_overruns : Overruns (BothWithin (GroundedDuring x Known) (ErasedWithin x start)) (ErasedWithin x start)
  erased_overruns t past p q w j h runs over = h.1

  pub erased_uses : Uses (BothBetween (GroundedBefore x Known) (ErasedBefore x start)) (ErasedWithin x start)
  erased_uses t past p q w h runs = (
    h.1.0,
    all_shown_alike x start t past w (with_process p (λ _. turn_used q) w) (only_at p (λ _. turn_used q))
        (is_changed_at p (λ _. turn_used q) w.processes)
        (λ r q' at. only_alike p (λ _. turn_used q) r q' (nat_eq r p) refl
        (λ same. turn_used_alike q ∙ ap unmarked (some_same (sym runs.there ∙ (ap (slice_get w.processes) (sym same) ∙ at))))) h.1.1,
  )

  -- a private level went back
  alone_back : (t : ℕ) (past : List Told) (p : ℕ) (q : Process S S) (w : World S S Nothing) (j : ℕ) (level : Level S) → Grounded x Known w
      → RejectsAt p q w j level → level.facts.conversation ≡ None → AllShown x start t past w
      → AllShown x start t past (with_process p (put_back (whole x) j) w)
  alone_back t past p q w j level ground rejects private all =
      all_shown_back x start t past w (with_process p (put_back (whole x) j) w) (alone_at p j) (alone_changed x p j w.processes)
      (alone_line p j q w level rejects private) (λ r q' at. (ground.each r q' at).bare) all

  -- all inside a conversation went back
  together_back : (t : ℕ) (past : List Told) (c : ℕ) (w v : World S S Nothing) → IsChanged (back_at x (line_of c w.processes)) w.processes v.processes
      → Grounded x Known w → AllShown x start t past w → AllShown x start t past v
  together_back t past c w v changed ground all =
      all_shown_back x start t past w v (line_of c w.processes) changed (together_line c w.processes) (λ r q' at. (ground.each r q' at).bare) all

  pub erased_is_spent : IsSpent (whole x) (BothWithin (GroundedDuring x Known) (ErasedWithin x start)) (ErasedWithin x start)
  erased_is_spent t past p q w j level h rejects private spent = (h.1.0, alone_back t past p q w j level h.0.ground rejects private h.1.1)

  pub erased_all_are_spent : AllSpent (whole x) (BothWithin (GroundedDuring x Known) (ErasedWithin x start)) (ErasedWithin x start)
  erased_all_are_spent t past p q w j level c parent h rejects of_c spent within =
      (h.1.0, together_back t past c w (all_spent (whole x) c w) (together_changed x c w.processes) h.0.ground h.1.1)

  pub erased_tries_next : TriesNext (whole x) (BothWithin (GroundedDuring x Known) (ErasedWithin x start)) (ErasedAfter x start)
  erased_tries_next t past p q w j level h rejects private more =
      let v : World S S Nothing = with_process p (put_back (whole x) j) w in (
        h.1.0,
        stays_shown t past (with_process p (raised j) v)
            (one_quiet x (raised j) p v.processes (λ q'. raised_quiet x p j q')
            (one_quiet x (put_back (whole x) j) p w.processes (λ q'. back-quiet x p j q') h.0.ground.quiet))
            (all_shown_alike x start t past v (with_process p (raised j) v) (only_at p (raised j)) (is_changed_at p (raised j) v.processes)
            (λ r q' at. only_alike p (raised j) r q' (nat_eq r p) refl (λ same. raised_alike j q'))
            (alone_back t past p q w j level h.0.ground rejects private h.1.1)),
      )

  pub erased_all_try_next : AllTryNext (whole x) (BothWithin (GroundedDuring x Known) (ErasedWithin x start)) (ErasedAfter x start)
  erased_all_try_next t past p q w j level c h rejects of_c more =
      let v : World S S Nothing = all_back (whole x) c w in (
        h.1.0,
        stays_shown t past (all_next (whole x) c w)
            (inside_quiet x raised c v.processes (λ r i q'. raised_quiet x r i q')
            (inside_quiet x (put_back (whole x)) c w.processes (λ r i q'. back-quiet x r i q') h.0.ground.quiet))
            (all_shown_alike x start t past v (all_next (whole x) c w) (λ r. where_inside raised c)
            (is_changed_each (where_inside raised c) v.processes)
            (λ r q' at. raised_at_alike (position (is_of c) q'.levels) q')
            (together_back t past c w v (together_changed x c w.processes) h.0.ground h.1.1)),
      )
