-- Levels that come from others, with the same recovery points at the same numbers; and the place of a conversation's level.
use Rattle.std.proofs.Common.{◌≡◌, ◌<◌, ◌+◌, ℕ, zero, suc, Bool, true, false, cond, not, ◌||◌, List, [], ◌∷◌, ◌++◌, length, map, position, slice_get, take, Option, Some, None, refl, sym, ap, ◌∙◌, eq-eqb, eqb-true, lt-ltb, get_or, true≢false, add-one, arith}
use Rattle.std.specs.List.{list_any, position_or_len}
use Rattle.std.proofs.lemmas.Option.{slice_get-get_or}
use Rattle.std.proofs.lemmas.List.Quantifiers.{position-Some}
use Rattle.rb_world.specs.World.{Level, change_at, is_number, is_of, without_last}
use Rattle.rb_world.specs.Reject.{next_alternate}
use Rattle.rb_world.specs.Turn.{one_used}
use Rattle.rb_world.specs.Nested.{IsLevelOf}
use Rattle.rb_world.proofs.ListFacts.{none_some, some_same}

-- Some is not None
pub some_none : {A : Type 0} {x : A} → Some x ≡ None → ⊥
some_none e = cc

-- what is looked up in a list's first elements
pub get_take : {A : Type 0} (n : ℕ) (xs : List A) (i : ℕ) (y : A) → slice_get (take n xs) i ≡ Some y → (i < n) × (slice_get xs i ≡ Some y)
get_take zero [] i y e = absurd (none_some e)
get_take zero (x ∷ xs) i y e = absurd (none_some e)
get_take (suc n) [] i y e = absurd (none_some e)
get_take (suc n) (x ∷ xs) zero y e = (omega arith, e)
get_take (suc n) (x ∷ xs) (suc i) y e = let found = get_take n xs i y e in (omega (arith, found.0), found.1)

-- and in a list without its last element
pub get_without_last : {A : Type 0} (xs : List A) (i : ℕ) (y : A) → slice_get (without_last xs) i ≡ Some y → slice_get xs i ≡ Some y
get_without_last [] i y e = absurd (none_some e)
get_without_last (x ∷ []) i y e = absurd (none_some e)
get_without_last (x ∷ z ∷ xs) zero y e = e
get_without_last (x ∷ z ∷ xs) (suc i) y e = get_without_last (z ∷ xs) i y e

-- what is looked up in a list that has one more
pub data IsOldOrNew {A : Type 0} (xs : List A) (new : A) (i : ℕ) (y : A) : Type 0 where
  IsOld : slice_get xs i ≡ Some y → IsOldOrNew xs new i y
  IsNew : i ≡ length xs → new ≡ y → IsOldOrNew xs new i y

one_further : {A : Type 0} (x : A) (xs : List A) (new : A) (i : ℕ) (y : A) → IsOldOrNew xs new i y → IsOldOrNew (x ∷ xs) new (suc i) y
one_further x xs new i y (IsOld e) = IsOld e
one_further x xs new i y (IsNew e same) = IsNew (ap suc e) same

-- one of the old ones, or the new one
pub get_more : {A : Type 0} (xs : List A) (new : A) (i : ℕ) (y : A) → slice_get (xs ++ new ∷ []) i ≡ Some y → IsOldOrNew xs new i y
get_more [] new zero y e = IsNew refl (some_same e)
get_more [] new (suc i) y e = absurd (none_some e)
get_more (x ∷ xs) new zero y e = IsOld e
get_more (x ∷ xs) new (suc i) y e = one_further x xs new i y (get_more xs new i y e)

-- who has a level that passes a test has a first one
first_below : (here rest : Bool) (n len : ℕ) → (rest ≡ true → n < len) → (here || rest) ≡ true → cond (not here) (1 + n) 0 < suc len
first_below true rest n len below e = omega arith
first_below false rest n len below e = omega (arith, below e)

any_below : {A : Type 0} (test : A → Bool) (xs : List A) → list_any test xs ≡ true → position_or_len test xs < length xs
any_below test [] e = absurd (true≢false (sym e))
any_below test (x ∷ xs) e =
    first_below (test x) (list_any test xs) (position_or_len test xs) (length xs) (any_below test xs) e

-- so its place is found
pub no_place : {A : Type 0} (test : A → Bool) (xs : List A) → list_any test xs ≡ true → position test xs ≡ None → ⊥
no_place test xs any none =
    some_none
    (sym (ap (λ (b : Bool). cond b (Some (position_or_len test xs)) None)
    (lt-ltb (position_or_len test xs) (length xs) (any_below test xs any))) ∙ none)

-- a list that begins, and its first element
pub take_first : {A : Type 0} (xs : List A) (y : A) → slice_get xs 0 ≡ Some y → take 1 xs ≡ y ∷ []
take_first [] y e = absurd (none_some e)
take_first {A} (x ∷ xs) y e = ap (λ (z : A). z ∷ []) (some_same e)

-- what has an element is not empty up to it
pub take_some : {A : Type 0} (j : ℕ) (xs : List A) (y : A) → slice_get xs j ≡ Some y → take (j + 1) xs ≡ [] → ⊥
take_some j [] y e none = none_some e
take_some {A} j (x ∷ xs) y e none =
    some_none (ap (λ (zs : List A). slice_get zs 0) (sym (ap (λ (n : ℕ). take n (x ∷ xs)) (add-one j)) ∙ none))

-- a level stands at number i of these, with this recovery point
pub record ComesFrom {C : Type 0} (levels : List (Level C)) (i : ℕ) (copy : C) : Type 0 where
  pub level : Level C
  pub there : slice_get levels i ≡ Some level
  pub same : level.copy ≡ copy

abbrev pub AreFrom : {C : Type 0} → List (Level C) → List (Level C) → Type 0
AreFrom {C} levels old = (i : ℕ) (level : Level C) → slice_get levels i ≡ Some level → ComesFrom old i level.copy

-- the number that is in an option
pub of_number : (o : Option ℕ) (c : ℕ) → is_number o c ≡ true → o ≡ Some c
of_number None c e = absurd (true≢false (sym e))
of_number (Some d) c e = ap Some (eqb-true d c e)

or_true : (b : Bool) → (b || true) ≡ true
or_true true = refl
or_true false = refl

module _ {C : Type 0} where
  -- so it is with the same levels, the first of them, all but the last, and levels that used a turn or are raised
  pub from_same : (levels : List (Level C)) → AreFrom levels levels
  from_same levels i level e = record { level = level; there = e; same = refl }

  pub from_take : (n : ℕ) (levels : List (Level C)) → AreFrom (take n levels) levels
  from_take n levels i level e = record { level = level; there = (get_take n levels i level e).1; same = refl }

  pub from_without_last : (levels : List (Level C)) → AreFrom (without_last levels) levels
  from_without_last levels i level e = record { level = level; there = get_without_last levels i level e; same = refl }

  pub from_used : (levels : List (Level C)) → AreFrom (map one_used levels) levels
  from_used [] i level e = absurd (none_some e)
  from_used (l ∷ levels) zero level e = record { level = l; there = refl; same = ap (λ (m : Level C). m.copy) (some_same e) }
  from_used (l ∷ levels) (suc i) level e =
      let found = from_used levels i level e in record { level = found.level; there = found.there; same = found.same }

  pub from_next : (j : ℕ) (levels : List (Level C)) → AreFrom (change_at j next_alternate levels) levels
  from_next j [] i level e = absurd (none_some e)
  from_next zero (l ∷ levels) zero level e = record { level = l; there = refl; same = ap (λ (m : Level C). m.copy) (some_same e) }
  from_next zero (l ∷ levels) (suc i) level e = record { level = level; there = e; same = refl }
  from_next (suc j) (l ∷ levels) zero level e = record { level = l; there = refl; same = ap (λ (m : Level C). m.copy) (some_same e) }
  from_next (suc j) (l ∷ levels) (suc i) level e =
      let found = from_next j levels i level e in record { level = found.level; there = found.there; same = found.same }

  -- the place of a conversation's level
  pub level_at_place : (c j : ℕ) (levels : List (Level C)) → position (is_of c) levels ≡ Some j → IsLevelOf c levels j
  level_at_place c j [] e = absurd (none_some e)
  level_at_place c j (l ∷ levels) e =
      let found = position-Some (is_of c) (l ∷ levels) j l e in
      record {
        level = get_or (l ∷ levels) j l;
        there = slice_get-get_or (l ∷ levels) j l found.0;
        of_it = of_number (get_or (l ∷ levels) j l).facts.conversation c found.1;
      }

  -- whoever has a level of a conversation is inside it
  pub any_level : (c j : ℕ) (levels : List (Level C)) → IsLevelOf c levels j → list_any (is_of c) levels ≡ true
  any_level c j [] at = absurd (none_some at.there)
  any_level c zero (l ∷ levels) at =
      ap (λ (o : Option ℕ). is_number o c || list_any (is_of c) levels)
      (ap (λ (m : Level C). m.facts.conversation) (some_same at.there) ∙ at.of_it)
      ∙ ap (λ (b : Bool). b || list_any (is_of c) levels) (eq-eqb c c refl)
  any_level c (suc j) (l ∷ levels) at =
      ap (λ (b : Bool). is_of c l || b) (any_level c j levels (record { level = at.level; there = at.there; of_it = at.of_it }))
      ∙ or_true (is_of c l)

-- two conversations of one level are one
pub one_conversation : {C : Type 0} (c d i : ℕ) (levels : List (Level C)) → IsLevelOf c levels i → IsLevelOf d levels i → c ≡ d
one_conversation {C} c d i levels one other =
    some_same (sym one.of_it ∙ (ap (λ (l : Level C). l.facts.conversation) (some_same (sym one.there ∙ other.there)) ∙ other.of_it))
