-- As many processes, with as many words each.
use Rattle.std.proofs.Common.{◌≡◌, ◌≤◌, ◌<◌, ◌+◌, ℕ, zero, suc, ℤ, List, [], ◌∷◌, ◌++◌, length, map, take, drop, slice_set, sum_by, refl, sym, ap, ◌∙◌, arith}
use Rattle.std.proofs.lemmas.List.{length-map}
use Rattle.std.proofs.lemmas.List.Sums.{sum_by-cons, sum_by-take-drop}
use Rattle.rb_base.specs.Lines.{belonging}
use Rattle.rb_back.specs.Noting.{AreAlike, OthersAreSame}
use Rattle.rb_back.specs.Picture.{Picture}

pub alike_count : (xs ys : List (List ℤ)) → AreAlike xs ys → length xs ≡ length ys
alike_count xs ys alike = sym (length-map xs length) ∙ ap length alike ∙ length-map ys length

pub alike_at : (xs ys : List (List ℤ)) (p : ℕ) → AreAlike xs ys → length (belonging xs p) ≡ length (belonging ys p)
alike_at [] [] p alike = refl
alike_at [] (y ∷ ys) p alike = absurd (cc)
alike_at (x ∷ xs) [] p alike = absurd (cc)
alike_at (x ∷ xs) (y ∷ ys) zero alike = cc
alike_at (x ∷ xs) (y ∷ ys) (suc p) alike = alike_at xs ys p (let tails : map length xs ≡ map length ys = cc in tails)

-- behind the processes that are shown as they are now the others are as before
pub behind : (xs ys : List (List ℤ)) (p : ℕ) → p < length xs → p ≤ length ys → belonging (take p ys ++ drop p xs) p ≡ belonging xs p
behind xs ys zero there less = refl
behind xs [] (suc p) there less = absurd (omega arith)
behind [] (y ∷ ys) (suc p) there less = absurd (omega arith)
behind (x ∷ xs) (y ∷ ys) (suc p) there less = behind xs ys p (omega arith) (omega arith)

pub words_next : (xs : List (List ℤ)) (p : ℕ) → p < length xs
    → sum_by length (take (p + 1) xs) ≡ sum_by length (take p xs) + length (belonging xs p)
words_next xs p less = ap (λ n. sum_by length (take n xs)) {x = p + 1} {y = suc p} (omega arith) ∙ next xs p less
  where
    next : (lists : List (List ℤ)) (n : ℕ) → n < length lists
        → sum_by length (take (suc n) lists) ≡ sum_by length (take n lists) + length (belonging lists n)
    next [] n less = absurd (omega arith)
    next (x ∷ lists) zero less = omega (arith, sum_by-cons {X = List ℤ} length x [])
    next (x ∷ lists) (suc n) less =
        omega (arith, sum_by-cons length x (take (suc n) lists), sum_by-cons length x (take n lists), next lists n (omega arith))

pub words_within : (xs : List (List ℤ)) (p : ℕ) → sum_by length (take p xs) ≤ sum_by length xs
words_within xs p = omega (arith, sum_by-take-drop length xs p)

pub own_within : (xs : List (List ℤ)) (p : ℕ) → length (belonging xs p) ≤ sum_by length xs
own_within [] p = omega arith
own_within (x ∷ xs) zero = omega (arith, sum_by-cons length x xs)
own_within (x ∷ xs) (suc p) = omega (arith, sum_by-cons length x xs, own_within xs p)

-- where the words of one process alone are others
pub all_by_one : (xs ys : List (List ℤ)) (p : ℕ) → length xs ≡ length ys → OthersAreSame p xs ys → slice_set xs p (belonging ys p) ≡ ys
all_by_one [] [] p long same = refl
all_by_one [] (y ∷ ys) p long same = absurd (omega arith)
all_by_one (x ∷ xs) [] p long same = absurd (omega arith)
all_by_one (x ∷ xs) (y ∷ ys) zero long same =
    ap (λ (others : List (List ℤ)). y ∷ others) (all_same xs ys (omega arith) (λ r. same (suc r) (λ e. omega arith)))
  where
    all_same : (ls ms : List (List ℤ)) → length ls ≡ length ms → ((r : ℕ) → belonging ls r ≡ belonging ms r) → ls ≡ ms
    all_same [] [] long each = refl
    all_same [] (m ∷ ms) long each = absurd (omega arith)
    all_same (l ∷ ls) [] long each = absurd (omega arith)
    all_same (l ∷ ls) (m ∷ ms) long each =
        ap (λ (head : List ℤ). head ∷ ls) (each 0)
        ∙ ap (λ (others : List (List ℤ)). m ∷ others) (all_same ls ms (omega arith) (λ r. each (suc r)))
all_by_one (x ∷ xs) (y ∷ ys) (suc p) long same =
    ap (λ (head : List ℤ). head ∷ slice_set xs p (belonging ys p)) (same 0 (λ e. omega arith))
    ∙ ap (λ (others : List (List ℤ)). y ∷ others)
    (all_by_one xs ys p (omega arith) (λ r other. same (suc r) (λ e. other (omega (arith, e)))))

pub all_by_none : (xs ys : List (List ℤ)) (p : ℕ) → length xs ≡ length ys → OthersAreSame p xs ys → length xs ≤ p → xs ≡ ys
all_by_none [] [] p long same past = refl
all_by_none [] (y ∷ ys) p long same past = absurd (omega arith)
all_by_none (x ∷ xs) [] p long same past = absurd (omega arith)
all_by_none (x ∷ xs) (y ∷ ys) zero long same past = absurd (omega arith)
all_by_none (x ∷ xs) (y ∷ ys) (suc p) long same past =
    ap (λ (head : List ℤ). head ∷ xs) (same 0 (λ e. omega arith))
    ∙ ap (λ (others : List (List ℤ)). y ∷ others)
    (all_by_none xs ys p (omega arith) (λ r other. same (suc r) (λ e. other (omega (arith, e)))) (omega arith))

-- a process on the way
pub here_behind : (before here : Picture) (now : List (List ℤ)) (p : ℕ) → here ≡ record before { words = take p now ++ drop p before.words }
    → AreAlike before.words now → p < length before.words → belonging here.words p ≡ belonging before.words p
here_behind before here now p is alike less =
    ap (λ (shown : Picture). belonging shown.words p) is
    ∙ behind before.words now p less (let count = alike_count before.words now alike in omega arith)
