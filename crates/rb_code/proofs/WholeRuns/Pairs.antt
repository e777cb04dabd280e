-- Two lists of which the elements are related in pairs.
use Rattle.std.proofs.Common.{◌≡◌, ℕ, zero, suc, List, [], ◌∷◌, ◌++◌, slice_get, take, Some, refl, subst₂}
use Rattle.rb_world.specs.World.{without_last}
use Rattle.rb_world.proofs.ListFacts.{none_some, some_same}

abbrev pub Pairs : {A B : Type 0} → (A → B → Type 0) → List A → List B → Type 0
Pairs R [] [] = Unit {0}
Pairs R [] (y ∷ ys) = ⊥
Pairs R (x ∷ xs) [] = ⊥
Pairs R (x ∷ xs) (y ∷ ys) = R x y × Pairs R xs ys

module _ {A B : Type 0} (R : A → B → Type 0) where
  pub pairs_get : (xs : List A) (ys : List B) (j : ℕ) (x : A) (y : B) → Pairs R xs ys → slice_get xs j ≡ Some x → slice_get ys j ≡ Some y → R x y
  pairs_get [] ys j x y both e f = absurd (none_some e)
  pairs_get (a ∷ xs) [] j x y both e f = absurd (none_some f)
  pairs_get (a ∷ xs) (b ∷ ys) zero x y both e f = subst₂ R (some_same e) (some_same f) both.0
  pairs_get (a ∷ xs) (b ∷ ys) (suc j) x y both e f = pairs_get xs ys j x y both.1 e f

  pub pairs_take : (n : ℕ) (xs : List A) (ys : List B) → Pairs R xs ys → Pairs R (take n xs) (take n ys)
  pairs_take zero xs ys both = tt
  pairs_take (suc n) [] [] both = tt
  pairs_take (suc n) [] (y ∷ ys) both = absurd both
  pairs_take (suc n) (x ∷ xs) [] both = absurd both
  pairs_take (suc n) (x ∷ xs) (y ∷ ys) both = (both.0, pairs_take n xs ys both.1)

  pub pairs_front : (xs : List A) (ys : List B) → Pairs R xs ys → Pairs R (without_last xs) (without_last ys)
  pairs_front [] [] both = tt
  pairs_front [] (y ∷ ys) both = absurd both
  pairs_front (x ∷ xs) [] both = absurd both
  pairs_front (x ∷ []) (y ∷ []) both = tt
  pairs_front (x ∷ []) (y ∷ y' ∷ ys) both = absurd both.1
  pairs_front (x ∷ x' ∷ xs) (y ∷ []) both = absurd both.1
  pairs_front (x ∷ x' ∷ xs) (y ∷ y' ∷ ys) both = (both.0, pairs_front (x' ∷ xs) (y' ∷ ys) both.1)

  pub pairs_more : (xs : List A) (ys : List B) (x : A) (y : B) → Pairs R xs ys → R x y → Pairs R (xs ++ x ∷ []) (ys ++ y ∷ [])
  pairs_more [] [] x y both one = (one, tt)
  pairs_more [] (b ∷ ys) x y both one = absurd both
  pairs_more (a ∷ xs) [] x y both one = absurd both
  pairs_more (a ∷ xs) (b ∷ ys) x y both one = (both.0, pairs_more xs ys x y both.1 one)

  -- pairs that are related in another way too
  pub pairs_become : (R' : A → B → Type 0) (xs : List A) (ys : List B) → ((i : ℕ) (x : A) (y : B) → slice_get xs i ≡ Some x → R x y → R' x y)
      → Pairs R xs ys → Pairs R' xs ys
  pairs_become R' [] [] one both = tt
  pairs_become R' [] (y ∷ ys) one both = absurd both
  pairs_become R' (x ∷ xs) [] one both = absurd both
  pairs_become R' (x ∷ xs) (y ∷ ys) one both = (one 0 x y refl both.0, pairs_become R' xs ys (λ i. one (suc i)) both.1)
