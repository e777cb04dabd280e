-- Where a mark stands first.
use Rattle.std.proofs.Common.{◌≡◌, ℕ, ◌+◌, ◌-◌, ◌≤◌, false, cond, nat_eq, List, [], ◌∷◌, length, take, drop, Option, None, Some, option_map, refl, ap, sym, ◌∙◌, arith}
use Rattle.std.specs.List.{starts_with}
use Rattle.std.proofs.Math.Seq.{take-length}
use Rattle.rb_page.specs.Page.{place_of}

-- a place that is counted on from another one
abbrev pub counted_on : ℕ → Option ℕ → Option ℕ
counted_on at place = option_map (λ k. at + k) place

-- one place further on
counted_next : (at : ℕ) (place : Option ℕ) → counted_on at (option_map (λ k. k + 1) place) ≡ counted_on (at + 1) place
counted_next at None = refl
counted_next at (Some k) = let next : at + (k + 1) ≡ at + 1 + k = omega arith in ap (λ n. Some n) next

-- a byte is passed at which the mark does not stand
pub counted_past : (mark rest : List ℕ) (at : ℕ) → 1 ≤ length rest → false ≡ starts_with nat_eq rest mark
    → counted_on (at + 1) (place_of mark (take (length rest - 1) (drop 1 rest))) ≡ counted_on at (place_of mark rest)
counted_past mark [] at some other = absurd (omega arith)
counted_past mark (b ∷ bs) at some other =
    let one_less : length (b ∷ bs) - 1 ≡ length bs = omega arith in
    ap (λ n. counted_on (at + 1) (place_of mark (take n bs))) one_less
    ∙ ap (λ text. counted_on (at + 1) (place_of mark text)) (take-length bs)
    ∙ sym (counted_next at (place_of mark bs))
    ∙ ap (λ t. counted_on at (cond t (Some 0) (option_map (λ k. k + 1) (place_of mark bs)))) other
