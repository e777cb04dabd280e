-- Where the CR that may end a line stands.
use Rattle.std.proofs.Common.{◌≡◌, ℕ, suc, ◌-◌, List, [], ◌∷◌, Bool, true, false, cond, ◌&&◌, nat_eq, length, take, drop, refl, ap, ◌∙◌, sym, arith}
use Rattle.std.specs.Cmp.Lexicographic.{pointwise}
use Rattle.rb_sched.specs.Schedule.{without_cr}

-- a test and no further one
and_true : (t : Bool) → t ≡ (t && true)
and_true true = refl
and_true false = refl

-- a byte in front of either choice
cond-cons : (t : Bool) (b : ℕ) (xs ys : List ℕ) → b ∷ cond t xs ys ≡ cond t (b ∷ xs) (b ∷ ys)
cond-cons true b xs ys = refl
cond-cons false b xs ys = refl

-- the line cut at n, if the rest from there is a CR
abbrev cut_at : List ℕ → ℕ → List ℕ
cut_at line n = cond (pointwise nat_eq (drop n line) (13 ∷ [])) (take n line) line

-- the CR that may end a line is its last byte
pub without_cr_at : (line : List ℕ) → without_cr line ≡ cut_at line (length line - 1)
without_cr_at [] = refl
without_cr_at (b ∷ []) = ap (λ t. cond t [] (b ∷ [])) (and_true (nat_eq b 13))
without_cr_at (b ∷ c ∷ bs) =
    let inner : length (c ∷ bs) - 1 ≡ length bs = omega arith in
    let outer : length (b ∷ c ∷ bs) - 1 ≡ suc (length bs) = omega arith in
    ap (λ xs. b ∷ xs) (without_cr_at (c ∷ bs) ∙ ap (cut_at (c ∷ bs)) inner)
    ∙ cond-cons _ b _ _
    ∙ ap (cut_at (b ∷ c ∷ bs)) (sym outer)
