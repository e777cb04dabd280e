-- An address joins those that are to be followed, or goes from them.
use Rattle.std.proofs.Common.{◌≡◌, ◌⊎◌, inl, inr, ℕ, zero, suc, List, [], ◌∷◌, Contains, refl, sym, arith}
use Rattle.std.specs.List.Sorted.{IsPermutation}
use Rattle.std.proofs.lemmas.List.Elements.{Contains-append_cases}
use Rattle.std.proofs.lemmas.List.Sorted.{Contains-permutation}

single : (at a : ℕ) → Contains (at ∷ []) a → a ≡ at
single at a (zero, l, e) = sym e
single at a (suc x, l, e) = absurd (omega (arith, l))

pub more : (xs ys : List ℕ) (x a : ℕ) → IsPermutation (x ∷ xs) ys → Contains xs a → Contains ys a
more xs ys x a p (i, l, e) = Contains-permutation (x ∷ xs) ys a p (suc i, omega (arith, l), e)

pub there : (xs ys : List ℕ) (x : ℕ) → IsPermutation (x ∷ xs) ys → Contains ys x
there xs ys x p = Contains-permutation (x ∷ xs) ys x p (0, omega arith, refl)

pub taken : (xs ys : List ℕ) (x a : ℕ) → IsPermutation xs (x ∷ ys) → Contains xs a → (a ≡ x) ⊎ Contains ys a
taken xs ys x a p h = by (Contains-append_cases (x ∷ []) ys a (Contains-permutation xs (x ∷ ys) a p h))
  where
    by : Contains (x ∷ []) a ⊎ Contains ys a → (a ≡ x) ⊎ Contains ys a
    by (inl k) = inl (single x a k)
    by (inr k) = inr k
