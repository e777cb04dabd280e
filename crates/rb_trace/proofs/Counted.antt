-- The words that are printed of a list's elements, as the list is gone through.
use Rattle.std.proofs.Common.{◌≡◌, ℕ, ◌+◌, ◌<◌, ◌≤◌, List, [], ◌∷◌, length, map, take, get_or, sum_by, refl, sym, ap, ◌∙◌, arith}
use Rattle.std.proofs.lemmas.List.Sums.{sum_by-cons, sum_by-take-le, sum_by_more, sum_by_more_le}

sum_by-map : {X Y : Type 0} (f : Y → ℕ) (g : X → Y) (xs : List X) → sum_by f (map g xs) ≡ sum_by (λ (x : X). f (g x)) xs
sum_by-map f g [] = refl
sum_by-map {X} f g (x ∷ xs) =
    sum_by-cons f (g x) (map g xs) ∙ ap (λ (n : ℕ). f (g x) + n) (sum_by-map f g xs) ∙ sym (sum_by-cons (λ (one : X). f (g one)) x xs)

-- those of one element more
pub counted_more : {X Y : Type 0} (f : Y → ℕ) (g : X → Y) (xs : List X) (i : ℕ) (x : X) → i < length xs → x ≡ get_or xs i x →
    sum_by f (map g (take (i + 1) xs)) ≡ sum_by f (map g (take i xs)) + f (g x)
counted_more {X} f g xs i x within is =
    sum_by-map f g (take (i + 1) xs)
    ∙ sum_by_more (λ (one : X). f (g one)) xs i x within
    ∙ ap (λ (one : X). sum_by (λ (each : X). f (g each)) (take i xs) + f (g one)) (sym is)
    ∙ ap (λ (n : ℕ). n + f (g x)) (sym (sum_by-map f g (take i xs)))

-- these, and those so far, are among all
pub counted_part : {X Y : Type 0} (f : Y → ℕ) (g : X → Y) (xs : List X) (i : ℕ) (x : X) → i < length xs → x ≡ get_or xs i x →
    sum_by f (map g (take i xs)) + f (g x) ≤ sum_by f (map g xs)
counted_part {X} f g xs i x within is =
    omega (
      arith,
      sum_by-map f g xs,
      sum_by-map f g (take i xs),
      sum_by_more_le (λ (one : X). f (g one)) xs i x within,
      ap (λ (one : X). f (g one)) is,
    )

pub counted_all : {X Y : Type 0} (f : Y → ℕ) (g : X → Y) (xs : List X) (i : ℕ) → sum_by f (map g (take i xs)) ≤ sum_by f (map g xs)
counted_all {X} f g xs i = omega (arith, sum_by-map f g xs, sum_by-map f g (take i xs), sum_by-take-le (λ (one : X). f (g one)) xs i)
