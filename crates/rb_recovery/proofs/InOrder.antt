-- A list whose elements are changed in order: so far, one more, and all of them.
use Rattle.std.proofs.Common.{◌≡◌, ◌≤◌, ◌+◌, ◌++◌, ℕ, zero, suc, List, [], ◌∷◌, length, set, map, take, drop, refl, sym, ap, ◌∙◌, append-nil, add-one, arith}
use Rattle.std.proofs.lemmas.List.{drop-set-lt, drop_all, take_all}

-- all of them
pub all_in_order : {A : Type 0} (f : A → A) (xs ys : List A) (n : ℕ) → length xs ≤ n → ys ≡ map f (take n xs) ++ drop n xs → ys ≡ map f xs
all_in_order {A} f xs ys n long so_far =
    so_far
    ∙ ap (λ (rest : List A). map f (take n xs) ++ rest) (drop_all n xs long)
    ∙ append-nil (map f (take n xs))
    ∙ ap (map f) (take_all n xs long)

-- what comes behind the one that is written stays
pub rest_more : {A : Type 0} (xs ys : List A) (i : ℕ) (y : A) → drop (suc i) ys ≡ drop (suc i) xs → drop (i + 1) (set ys i y) ≡ drop (i + 1) xs
rest_more {A} xs ys i y rest =
    ap (λ (n : ℕ). drop n (set ys i y)) (add-one i)
    ∙ drop-set-lt (suc i) ys i y (omega arith)
    ∙ rest
    ∙ ap (λ (n : ℕ). drop n xs) (sym (add-one i))

-- behind the elements that were the same there are the same
pub rest_fewer : {A : Type 0} (xs ys : List A) (i : ℕ) → drop i ys ≡ drop i xs → drop (suc i) ys ≡ drop (suc i) xs
rest_fewer {A} xs ys i same = later ys i ∙ ap (drop 1) same ∙ sym (later xs i)
  where
    later : (zs : List A) (n : ℕ) → drop (suc n) zs ≡ drop 1 (drop n zs)
    later [] zero = refl
    later [] (suc n) = refl
    later (z ∷ zs) zero = refl
    later (z ∷ zs) (suc n) = later zs n
