-- Texts that are put one after another, for numbers in their order.
use Rattle.std.proofs.Common.{◌≡◌, ℕ, zero, suc, ◌+◌, ◌-◌, ◌≤◌, List, [], ◌∷◌, ◌++◌, ap, ◌∙◌, sym, arith, append-nil}
use Rattle.std.specs.List.{flat_map, range_with_len}
use Rattle.std.proofs.lemmas.List.{flat_map_more}

-- one number more
range_more : (a n : ℕ) → range_with_len a (n + 1) ≡ range_with_len a n ++ (a + n) ∷ []
range_more a zero = let last : a ≡ a + 0 = omega arith in ap (λ x. x ∷ []) last
range_more a (suc n) =
    let next : suc n + 1 ≡ suc (n + 1) = omega arith in
    let last : a + 1 + n ≡ a + suc n = omega arith in
    ap (range_with_len a) next ∙ ap (λ xs. a ∷ xs) (range_more (a + 1) n) ∙ ap (λ x. a ∷ (range_with_len (a + 1) n ++ x ∷ [])) last

-- the texts of the numbers from `first` up to `at` were put behind what stood there before
pub record ArePut (text_of : ℕ → List ℕ) (before : List ℕ) (first at : ℕ) (text : List ℕ) : Type 0 where
  pub so_far : text ≡ before ++ flat_map text_of (range_with_len first (at - first))

-- none yet
pub put_none : (text_of : ℕ → List ℕ) (text : List ℕ) (first : ℕ) → ArePut text_of text first first text
put_none text_of text first =
    let none : 0 ≡ first - first = omega arith in
    record { so_far = sym (append-nil text) ∙ ap (λ n. text ++ flat_map text_of (range_with_len first n)) none }

-- one text more
pub put_more : (text_of : ℕ → List ℕ) (before : List ℕ) (first at : ℕ) (text new : List ℕ)
    → ArePut text_of before first at text → first ≤ at → new ≡ text ++ text_of at → ArePut text_of before first (at + 1) new
put_more text_of before first at text new put begun more =
    let count : at - first + 1 ≡ at + 1 - first = omega arith in
    let last : at ≡ first + (at - first) = omega arith in
    let so_far = range_with_len first (at - first) in
    record {
      so_far =
          more
          ∙ ap (λ t. t ++ text_of at) put.so_far
          ∙ flat_map_more text_of before so_far at
          ∙ ap (λ x. before ++ flat_map text_of (so_far ++ x ∷ [])) last
          ∙ ap (λ xs. before ++ flat_map text_of xs) (sym (range_more first (at - first)))
          ∙ ap (λ n. before ++ flat_map text_of (range_with_len first n)) count;
    }
