-- Processes are put back, and nothing is kept of it: a cut of the world after is one of the world before, in which each that was
-- put back is shown no further in than at the level that was put back.
use Rattle.std.proofs.Common.{◌≡◌, ◌≤◌, ◌<◌, ℕ, ◌+◌, zero, suc, min, Bool, true, false, nat_le, List, [], ◌∷◌, length, take, slice_get, Option, Some, None, refl, sym, ap, ◌∙◌, subst, arith, leb-false, length-take}
use Rattle.std.proofs.lemmas.Bool.{leb-true}
use Rattle.std.proofs.lemmas.Option.{slice_get_past, slice_get_within}
use Rattle.std.proofs.Math.Nat.{min-eq_left}
use Rattle.rb_world.specs.World.{Level, Process, World}
use Rattle.rb_world.specs.Reject.{at_place, back_to, put_back}
use Rattle.rb_world.specs.Standing.{Each, is_failed}
use Rattle.rb_world.specs.Nested.{IsLevelOf}
use Rattle.rb_world.specs.Turn.{Told}
use Rattle.rb_world.proofs.Erasing.ErasableKinds.{Nothing, Parts, whole}
use Rattle.rb_world.proofs.Erasing.Showing.Cuts.{plain_levels, shown_at, shown, ShowsOne, Alive, Lost, IsConsistent}
use Rattle.rb_world.proofs.Erasing.Showing.ErasureInvariant.{ShowsCut, AllShown}
use Rattle.rb_world.proofs.Erasing.Showing.OtherProcessesInCuts.{IsChanged, changed_there, shows_changed}
use Rattle.rb_world.proofs.ListFacts.{none_some, nothing_within}

-- a number in a cut, and no further in than a place
abbrev pub no_further_than : Option ℕ → ℕ → ℕ
no_further_than None n = n
no_further_than (Some j) n = min n j

-- a place that is there, and is no further in than level number i
abbrev pub IsUpTo : Option ℕ → ℕ → Type 0
IsUpTo None i = ⊥
IsUpTo (Some j) i = j ≤ i

-- each process that has a place is put back there
abbrev pub back_at : {S E P : Type 0} → Parts S E P → (ℕ → Option ℕ) → ℕ → Process S S → Process S S
back_at x place r q = at_place (put_back (whole x)) (place r) q

-- Places to which processes go back: there is a level at each, and where one is a level of a conversation, whoever is inside that
-- conversation goes back to its own level of it, or further out.
pub record AreLine {S : Type 0} (place : ℕ → Option ℕ) (qs : List (Process S S)) : Type 0 where
  pub there : (r j : ℕ) (q : Process S S) → slice_get qs r ≡ Some q → place r ≡ Some j → (level : Level S) × (slice_get q.levels j ≡ Some level)
  pub together : (r other c j i : ℕ) (q q' : Process S S) → slice_get qs r ≡ Some q → slice_get qs other ≡ Some q' → place r ≡ Some j
      → IsLevelOf c q.levels j → IsLevelOf c q'.levels i → IsUpTo (place other) i

slice_get-take : {A : Type 0} (n i : ℕ) (xs : List A) → i < n → slice_get (take n xs) i ≡ slice_get xs i
slice_get-take zero i xs few = absurd (omega (arith, few))
slice_get-take (suc n) i [] few = refl
slice_get-take (suc n) zero (x ∷ xs) few = refl
slice_get-take (suc n) (suc i) (x ∷ xs) few = slice_get-take n i xs (omega (arith, few))

take_take : {A : Type 0} (n m : ℕ) (xs : List A) → n ≤ m → take n (take m xs) ≡ take n xs
take_take zero m xs few = refl
take_take (suc n) zero xs few = absurd (omega (arith, few))
take_take (suc n) (suc m) [] few = refl
take_take {A} (suc n) (suc m) (x ∷ xs) few = ap (λ (ys : List A). x ∷ ys) (take_take n m xs (omega (arith, few)))

module _ {S E P : Type 0} (x : Parts S E P) where
  -- shown at a level that stays
  shown_kept : (n j : ℕ) (q : Process S S) (level : Level S) (found : Option (Level S)) → n ≤ j → j < length q.levels → slice_get q.levels n ≡ found
      → shown_at x n (back_to (whole x) j q (Some level)) found ≡ shown_at x n q found
  shown_kept n j q level None few in_range e = absurd (nothing_within q.levels n (omega (arith, few, in_range)) e)
  shown_kept n j q level (Some inner) few in_range e =
      ap (λ ls. record { state = inner.copy; levels = plain_levels x ls; at_line = false; status = q.status })
      (take_take (n + 1) (j + 1) q.levels (omega (arith, few)))

  -- shown in the present, once it was put back
  shown_back : (n j : ℕ) (q : Process S S) (level : Level S) → slice_get q.levels j ≡ Some level → (few : Bool) → nat_le n j ≡ few
      → shown x n (back_to (whole x) j q (Some level)) ≡ shown x (min n j) q
  shown_back n j q level there true e =
      let kept : n ≤ j = leb-true n j e in
      ap (shown_at x n (back_to (whole x) j q (Some level))) (slice_get-take (j + 1) n q.levels (omega (arith, kept)))
      ∙ (shown_kept n j q level (slice_get q.levels n) kept (slice_get_within q.levels j level there) refl
      ∙ ap (λ (m : ℕ). shown x m q) (sym (min-eq_left kept)))
  shown_back n j q level there false e =
      let gone : j < n = leb-false n j e in
      let same : min n j ≡ j = omega (arith, gone) in
      ap (shown_at x n (back_to (whole x) j q (Some level)))
      (slice_get_past (take (j + 1) q.levels) n (omega (arith, gone, length-take (j + 1) q.levels)))
      ∙ (ap (shown_at x j q) (sym there) ∙ ap (λ (m : ℕ). shown x m q) (sym same))

  -- a process that is put back is shown as it was at a level no further in
  shows_put_back : (n j : ℕ) (q : Process S S) (u : Process S P) (level : Level S) → slice_get q.levels j ≡ Some level
      → (is_failed q.status ≡ true → q.levels ≡ [])
      → ShowsOne x (min n j) q u → ShowsOne x n (back_to (whole x) j q (Some level)) u
  shows_put_back n j q u level there bare (Alive sound is) = Alive sound (is ∙ sym (shown_back n j q level there (nat_le n j) refl))
  shows_put_back n j q u level there bare (Lost failed is away own) =
      absurd (none_some (sym (ap (λ (ls : List (Level S)). slice_get ls j) (bare failed)) ∙ there))

  shows_at_place : (place : Option ℕ) (n : ℕ) (q : Process S S) (u : Process S P)
      → ((j : ℕ) → place ≡ Some j → (level : Level S) × (slice_get q.levels j ≡ Some level)) → (is_failed q.status ≡ true → q.levels ≡ [])
      → ShowsOne x (no_further_than place n) q u → ShowsOne x n (at_place (put_back (whole x)) place q) u
  shows_at_place None n q u there bare shows = shows
  shows_at_place (Some j) n q u there bare shows =
      let found = there j refl in
      subst (λ (o : Option (Level S)). ShowsOne x n (back_to (whole x) j q o) u) (sym found.1) (shows_put_back n j q u found.0 found.1 bare shows)

  -- a level that is no further in than the place stays
  level_kept : (c i j : ℕ) (q : Process S S) (found : Option (Level S)) → i ≤ j → IsLevelOf c q.levels i
      → IsLevelOf c (back_to (whole x) j q found).levels i
  level_kept c i j q None few at = at
  level_kept c i j q (Some level) few at =
      record { level = at.level; there = slice_get-take (j + 1) i q.levels (omega (arith, few)) ∙ at.there; of_it = at.of_it }

  -- who is shown at its place, or further out
  up_to : (place : Option ℕ) (n i : ℕ) → IsUpTo place i → no_further_than place n ≤ i
  up_to None n i at = absurd at
  up_to (Some j) n i at = omega (arith, at)

  -- a level that is there before stands after too, or is further in than the place
  other_within : (c i j n : ℕ) (q : Process S S) → IsLevelOf c q.levels i → (IsLevelOf c (put_back (whole x) j q).levels i → n ≤ i)
      → (few : Bool) → nat_le i j ≡ few → min n j ≤ i
  other_within c i j n q at shown true e =
      let few : n ≤ i = shown (level_kept c i j q (slice_get q.levels j) (leb-true i j e) at) in omega (arith, few)
  other_within c i j n q at shown false e = omega (arith, leb-false i j e)

  other_side : (place : Option ℕ) (c i n : ℕ) (q : Process S S) → IsLevelOf c q.levels i
      → (IsLevelOf c (at_place (put_back (whole x)) place q).levels i → n ≤ i) → no_further_than place n ≤ i
  other_side None c i n q at shown = shown at
  other_side (Some j) c i n q at shown = other_within c i j n q at shown (nat_le i j) refl

module _ {S E P : Type 0} (x : Parts S E P) (place : ℕ → Option ℕ) (f : ℕ → ℕ) (qs qs' : List (Process S S))
    (changed : IsChanged (back_at x place) qs qs')
    (line : AreLine place qs) (consistent : IsConsistent f qs') where
  -- The cut of the world before. Where it shows a process at a level that stays, the cut of the world after says so of all others.
  by_kept : (r other c i : ℕ) (q q' : Process S S) → slice_get qs r ≡ Some q → slice_get qs other ≡ Some q'
      → IsLevelOf c (back_at x place r q).levels (f r) → IsLevelOf c q'.levels i → no_further_than (place other) (f other) ≤ i
  by_kept r other c i q q' at there of_c of_other =
      other_side x (place other) c i (f other) q' of_other
      (λ kept. consistent r other c i (back_at x place r q) (back_at x place other q') (changed_there (back_at x place) qs qs' r q changed at)
      (changed_there (back_at x place) qs qs' other q' changed there) of_c kept)

  by_place : (r other c i j : ℕ) (q q' : Process S S) → slice_get qs r ≡ Some q → slice_get qs other ≡ Some q' → place r ≡ Some j
      → IsLevelOf c q.levels (min (f r) j) → IsLevelOf c q'.levels i → (few : Bool) → nat_le (f r) j ≡ few
      → no_further_than (place other) (f other) ≤ i
  by_place r other c i j q q' at there is of_c of_other true e =
      let few : f r ≤ j = leb-true (f r) j e in
      by_kept r other c i q q' at there
      (subst (λ (o : Option ℕ). IsLevelOf c (at_place (put_back (whole x)) o q).levels (f r)) (sym is)
      (level_kept x c (f r) j q (slice_get q.levels j) few (subst (IsLevelOf c q.levels) (min-eq_left few) of_c))) of_other
  by_place r other c i j q q' at there is of_c of_other false e =
      let gone : j < f r = leb-false (f r) j e in
      let same : min (f r) j ≡ j = omega (arith, gone) in
      up_to x (place other) (f other) i (line.together r other c j i q q' at there is (subst (IsLevelOf c q.levels) same of_c) of_other)

  by_either : (r other c i : ℕ) (q q' : Process S S) → slice_get qs r ≡ Some q → slice_get qs other ≡ Some q' → (o : Option ℕ) → place r ≡ o
      → IsLevelOf c q.levels (no_further_than o (f r)) → IsLevelOf c q'.levels i → no_further_than (place other) (f other) ≤ i
  by_either r other c i q q' at there None is of_c of_other =
      by_kept r other c i q q' at there
      (subst (λ (o : Option ℕ). IsLevelOf c (at_place (put_back (whole x)) o q).levels (f r)) (sym is) of_c) of_other
  by_either r other c i q q' at there (Some j) is of_c of_other = by_place r other c i j q q' at there is of_c of_other (nat_le (f r) j) refl

  consistent_before : IsConsistent (λ r. no_further_than (place r) (f r)) qs
  consistent_before r other c i q q' at there of_c of_other = by_either r other c i q q' at there (place r) refl of_c of_other

module _ {S E P : Type 0} (x : Parts S E P) (start : World S P Nothing) where
  -- so where every cut of the world before is shown, every cut of the world after is, by the same plain worlds
  pub all_shown_back : (t : ℕ) (past : List Told) (w v : World S S Nothing) (place : ℕ → Option ℕ)
      → IsChanged (back_at x place) w.processes v.processes
      → AreLine place w.processes → Each (λ r q. is_failed q.status ≡ true → q.levels ≡ []) w.processes
      → AllShown x start t past w → AllShown x start t past v
  all_shown_back t past w v place changed line bare all f consistent =
      let g : ℕ → ℕ = λ r. no_further_than (place r) (f r) in
      let old : ShowsCut x start t past w g = all g (consistent_before x place f w.processes v.processes changed line consistent) in
      record {
        world = old.world;
        shows = shows_changed x g f (back_at x place) w.processes v.processes old.world.processes changed
            (λ r q u at. shows_at_place x (place r) (f r) q u (λ j is. line.there r j q at is) (bare r q at)) old.shows;
        erased = old.erased;
      }
