-- Lists that are named an entry at a time, from the first on.
use Rattle.std.proofs.Common.{◌≡◌, ℕ, ◌-◌, ◌+◌, ◌<◌, ◌≤◌, List, [], ◌∷◌, ◌++◌, length, take, drop, map, sym, ap, ◌∙◌, arith, append_assoc}
use Rattle.std.specs.Prelude.{get_or}
use Rattle.std.proofs.Math.Seq.{take-length}
use Rattle.std.proofs.lemmas.List.{append-nil}

pub after_one : {X : Type 0} (x : X) (xs : List X) → take (length (x ∷ xs) - 1) (drop 1 (x ∷ xs)) ≡ xs
after_one x xs =
    let one : length (x ∷ xs) - 1 ≡ length xs = omega arith in
    ap (λ n. take n xs) one ∙ take-length xs

-- one more is named, and those after it as they were
pub named_step : {X Y : Type 0} (before after : List X → List Y) (rest : List X) (x d : X) (y : Y) (named named' all : List Y)
    → ((xs : List X) → before (x ∷ xs) ≡ y ∷ after xs) → 1 ≤ length rest → x ≡ get_or rest 0 d → named' ≡ named ++ y ∷ []
    → named ++ before rest ≡ all → named' ++ after (take (length rest - 1) (drop 1 rest)) ≡ all
named_step before after [] x d y named named' all splits h is these whole = absurd (omega arith)
named_step before after (z ∷ zs) x d y named named' all splits h is these whole =
    ap (λ xs. named' ++ after xs) (after_one z zs)
    ∙ ap (λ ys. ys ++ after zs) these
    ∙ append_assoc named (y ∷ []) (after zs)
    ∙ ap (λ ys. named ++ ys) (sym (splits zs) ∙ ap (λ w. before (w ∷ zs)) is)
    ∙ whole

-- the same where they are counted
pub counted_step : {X Y : Type 0} (others : ℕ → List X → List Y) (rest : List X) (x d : X) (k k' more : ℕ) (y : Y) (named named' all : List Y)
    → ((xs : List X) → others k (x ∷ xs) ≡ y ∷ others (k + more) xs) → 1 ≤ length rest → x ≡ get_or rest 0 d → named' ≡ named ++ y ∷ []
    → k' ≡ k + more → named ++ others k rest ≡ all → named' ++ others k' (take (length rest - 1) (drop 1 rest)) ≡ all
counted_step others rest x d k k' more y named named' all splits h is these counts whole =
    ap (λ n. named' ++ others n (take (length rest - 1) (drop 1 rest))) counts
    ∙ named_step (others k) (others (k + more)) rest x d y named named' all splits h is these whole

-- fewer are left
pub fewer_left : {X : Type 0} (rest : List X) → 1 ≤ length rest → length (take (length rest - 1) (drop 1 rest)) < length rest
fewer_left [] h = absurd (omega arith)
fewer_left (x ∷ xs) h =
    let these : length (take (length (x ∷ xs) - 1) (drop 1 (x ∷ xs))) ≡ length xs = ap length (after_one x xs) in omega arith

-- no other is left
pub named_end : {X Y : Type 0} (before : List X → List Y) (rest : List X) (named all : List Y) → before [] ≡ [] → length rest < 1
    → named ++ before rest ≡ all → named ≡ all
named_end before [] named all none h whole = sym (append-nil named) ∙ ap (λ ys. named ++ ys) (sym none) ∙ whole
named_end before (x ∷ xs) named all none h whole = absurd (omega arith)
