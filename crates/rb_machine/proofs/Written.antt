-- A list that is written over another, element by element.
use Rattle.std.proofs.Common.{◌≡◌, ◌+◌, ◌<◌, ◌≤◌, ◌++◌, ℕ, zero, suc, List, [], ◌∷◌, length, get_or, set, map, take, drop, refl, ap, sym, ◌∙◌, arith, add-one, not-suc-le-zero, le_of_suc-le-suc}
use Rattle.std.proofs.Math.ListN.{drop_of_length-le}
use Rattle.std.proofs.lemmas.List.{append-nil, take_all}

one_written : {A B : Type 0} (f : A → B) (xs : List A) (old : List B) (i : ℕ) (x : A) → i < length xs → i < length old
    → set (map f (take i xs) ++ drop i old) i (f (get_or xs i x)) ≡ map f (take (suc i) xs) ++ drop (suc i) old
one_written f [] old i x h k = absurd (not-suc-le-zero h)
one_written f (y ∷ xs) [] i x h k = absurd (not-suc-le-zero k)
one_written f (y ∷ xs) (b ∷ old) zero x h k = refl
one_written {A} {B} f (y ∷ xs) (b ∷ old) (suc i) x h k =
    ap (λ (others : List B). f y ∷ others) (one_written f xs old i x (le_of_suc-le-suc h) (le_of_suc-le-suc k))

-- one more of these that were written
pub more_written : {A B : Type 0} (f : A → B) (xs : List A) (old now : List B) (i : ℕ) (x : A) (b : B) → i < length xs
    → length old ≡ length xs → now ≡ map f (take i xs) ++ drop i old → x ≡ get_or xs i x → b ≡ f x
    → set now i b ≡ map f (take (i + 1) xs) ++ drop (i + 1) old
more_written {A} {B} f xs old now i x b h same so_far read is =
    let k : i < length old = omega (arith, h, same) in
    ap (λ (now : List B). set now i b) so_far
    ∙ ap (λ (b : B). set (map f (take i xs) ++ drop i old) i b) (is ∙ ap f read)
    ∙ one_written f xs old i x h k
    ∙ ap (λ (n : ℕ). map f (take n xs) ++ drop n old) (sym (add-one i))

-- all of them
pub all_written : {A B : Type 0} (f : A → B) (xs : List A) (old now : List B) (i : ℕ) → length xs ≤ i → length old ≡ length xs
    → now ≡ map f (take i xs) ++ drop i old → now ≡ map f xs
all_written {A} {B} f xs old now i h same so_far =
    let k : length old ≤ i = omega (arith, h, same) in
    so_far ∙ ap (λ (ys : List A). map f ys ++ drop i old) (take_all i xs h)
    ∙ ap (λ (ys : List B). map f xs ++ ys) (drop_of_length-le old k) ∙ append-nil (map f xs)
