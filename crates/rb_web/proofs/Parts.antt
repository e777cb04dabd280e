-- A text that is cut at each byte 0.
use Rattle.std.proofs.Common.{◌≡◌, ◌<◌, ℕ, nat_eq, List, [], ◌∷◌, ◌++◌, length, sym, ap, ◌∙◌, arith}
use Rattle.std.specs.List.{slice_split, before_first, after_first, position_or_len}
use Rattle.std.proofs.lemmas.List.{same_from_push}
use Rattle.std.proofs.lemmas.List.Splits.{slice_split_first, slice_split_none}
use Rattle.std.proofs.lemmas.List.Sums.{fails_before_first}

-- the first part ends at the first 0
pub first_part : (text word behind : List ℕ)
    → (position_or_len (λ b. nat_eq b 0) text < length text) × (word ≡ before_first (λ b. nat_eq b 0) text)
    × (behind ≡ after_first (λ b. nat_eq b 0) text)
    → slice_split (λ b. nat_eq b 0) text ≡ word ∷ slice_split (λ b. nat_eq b 0) behind
first_part text word behind (inside, is, left) =
    slice_split_first (λ b. nat_eq b 0) text 0 inside
    ∙ ap (λ (w : List ℕ). w ∷ slice_split (λ b. nat_eq b 0) (after_first (λ b. nat_eq b 0) text)) (sym is)
    ∙ ap (λ (w : List ℕ). word ∷ slice_split (λ b. nat_eq b 0) w) (sym left)

-- without a 0 there is one part
pub one_part : (text : List ℕ) → position_or_len (λ b. nat_eq b 0) text ≡ length text → slice_split (λ b. nat_eq b 0) text ≡ text ∷ []
one_part text none = slice_split_none (λ b. nat_eq b 0) text (λ k d l. fails_before_first (λ b. nat_eq b 0) text k d (omega (arith, l, none)))

-- a text whose last part is not empty is not one of words
pub not_ended : (text rest : List ℕ) (before words : List (List ℕ)) → slice_split (λ b. nat_eq b 0) text ≡ before ++ rest ∷ []
    → slice_split (λ b. nat_eq b 0) text ≡ words ++ [] ∷ [] → rest ≡ []
not_ended text rest before words cut ended = (same_from_push before words rest [] (sym cut ∙ ended)).1
