-- Places that are added along a list.
use Rattle.std.proofs.Common.{◌≡◌, ℕ, zero, suc, ◌+◌, ◌<◌, ◌≤◌, List, [], ◌∷◌, ◌++◌, append_assoc, drop, drop_of_length-le, get_or, length, ap, arith, sym, ◌∙◌}
use Rattle.std.proofs.lemmas.List.{append-nil}

module _ {A B : Type 0} (all : List A → List B) (one : A → List B) (split : (x : A) (xs : List A) → all (x ∷ xs) ≡ one x ++ all xs) where
  first : (i : ℕ) (xs : List A) (x d : A) → i < length xs → x ≡ get_or xs i d → all (drop i xs) ≡ one x ++ all (drop (i + 1) xs)
  first i [] x d h e = absurd (omega (arith, h))
  first zero (y ∷ xs) x d h e = split y xs ∙ ap (λ (z : A). one z ++ all xs) (sym e)
  first (suc i) (y ∷ xs) x d h e =
      let k : suc (i + 1) ≡ suc i + 1 = omega arith in
      first i xs x d (omega (arith, h)) e ∙ ap (λ (m : ℕ). one x ++ all (drop m (y ∷ xs))) k

  -- those of one more were added
  pub added : (i : ℕ) (xs : List A) (x d : A) (made now whole : List B) → i < length xs → x ≡ get_or xs i d
      → made ++ all (drop i xs) ≡ whole → now ≡ made ++ one x → now ++ all (drop (i + 1) xs) ≡ whole
  added i xs x d made now whole h e so_far more =
      ap (λ (bs : List B). bs ++ all (drop (i + 1) xs)) more ∙ append_assoc made (one x) (all (drop (i + 1) xs))
      ∙ ap (λ (bs : List B). made ++ bs) (sym (first i xs x d h e)) ∙ so_far

  -- none is left
  pub ended : (i : ℕ) (xs : List A) (made whole : List B) → length xs ≤ i → all [] ≡ [] → made ++ all (drop i xs) ≡ whole → made ≡ whole
  ended i xs made whole h none so_far =
      sym (ap (λ (bs : List B). made ++ bs) (ap all (drop_of_length-le xs h) ∙ none) ∙ append-nil made) ∙ so_far
