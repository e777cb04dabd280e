-- The innermost level: in a plain run, and when it goes.
use Rattle.std.proofs.Common.{◌≡◌, ◌⊎◌, ◌<◌, ℕ, suc, Bool, true, false, nat_lt, List, [], ◌∷◌, length, map, slice_get, Some, refl, sym, ap, ◌∙◌, inl, inr, ltb-true, ltb-false, arith}
use Rattle.std.specs.Option.{option_map}
use Rattle.std.proofs.lemmas.Option.{slice_get_within}
use Rattle.rb_world.specs.World.{Level, last_of, without_last}
use Rattle.rb_world.specs.Nested.{IsLevelOf}
use Rattle.rb_world.proofs.ListFacts.{some_same}
use Rattle.rb_world.proofs.ListFacts.{last_stands_last, length-end, slice_get-end, slice_get-front}

-- the last element of a list that was mapped
pub last_of-map : {A B : Type 0} (f : A → B) (xs : List A) → last_of (map f xs) ≡ option_map f (last_of xs)
last_of-map f [] = refl
last_of-map f (x ∷ []) = refl
last_of-map f (x ∷ y ∷ ys) = last_of-map f (y ∷ ys)

-- and what stands before it
pub without_last-map : {A B : Type 0} (f : A → B) (xs : List A) → without_last (map f xs) ≡ map f (without_last xs)
without_last-map f [] = refl
without_last-map f (x ∷ []) = refl
without_last-map {A} {B} f (x ∷ y ∷ ys) = ap (λ (zs : List B). f x ∷ zs) (without_last-map f (y ∷ ys))

-- one more than what stands before the last
pub length-with_last : {A : Type 0} (xs : List A) (x : A) → last_of xs ≡ Some x → length xs ≡ suc (length (without_last xs))
length-with_last {A} xs x e = ap (λ (ys : List A). length ys) (last_stands_last xs x e) ∙ length-end (without_last xs) x

-- the last element, by its number
pub slice_get-last : {A : Type 0} (xs : List A) (x : A) → last_of xs ≡ Some x → slice_get xs (length (without_last xs)) ≡ Some x
slice_get-last {A} xs x e =
    ap (λ (ys : List A). slice_get ys (length (without_last xs))) (last_stands_last xs x e) ∙ slice_get-end (without_last xs) x

-- what stands before the last, by its number
pub slice_get-without_last : {A : Type 0} (xs : List A) (x : A) (n : ℕ) → last_of xs ≡ Some x → n < length (without_last xs)
    → slice_get xs n ≡ slice_get (without_last xs) n
slice_get-without_last {A} xs x n e h =
    ap (λ (ys : List A). slice_get ys n) (last_stands_last xs x e) ∙ slice_get-front (without_last xs) (x ∷ []) n h

-- a level of a conversation is the innermost level, or stands before it
pub last_or_before : {S : Type 0} (c i : ℕ) (levels : List (Level S)) (last : Level S) → last_of levels ≡ Some last → IsLevelOf c levels i
    → (before : Bool) → nat_lt i (length (without_last levels)) ≡ before
    → ((i ≡ length (without_last levels)) × (last.facts.conversation ≡ Some c)) ⊎ IsLevelOf c (without_last levels) i
last_or_before c i levels last e l true h = inr (record {
  level = l.level;
  there = sym (slice_get-without_last levels last i e (ltb-true i (length (without_last levels)) h)) ∙ l.there;
  of_it = l.of_it;
})
last_or_before {S} c i levels last e l false h =
    let at : i ≡ length (without_last levels) =
    omega (
      arith,
      slice_get_within levels i l.level l.there,
      length-with_last levels last e,
      ltb-false i (length (without_last levels)) h,
    ) in
    inl (
      at,
      ap (λ (a : Level S). a.facts.conversation)
          (some_same (sym (slice_get-last levels last e) ∙ ap (slice_get levels) (sym at) ∙ l.there)) ∙ l.of_it,
    )
