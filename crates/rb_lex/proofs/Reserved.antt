-- A text can only be a word of its own length.
use Rattle.std.proofs.Common.{◌≡◌, ℕ, ◌==◌, nat_eq, Bool, true, false, ◌||◌, cond, List, [], ◌∷◌, length, map, refl, ap, sym, Bor}
use Rattle.std.specs.List.{list_any}
use Rattle.std.specs.Cmp.Lexicographic.{pointwise, same_text}
use Rattle.std.proofs.lemmas.Bool.{false_from_ne_true, eqb-false}
use Rattle.rb_base.specs.Reserved.{is_one_of}
use Rattle.rb_lex.specs.Cuts.{of_length}

-- words of another length differ from the text
pub other_length : (word text : List ℕ) → (length text == length word) ≡ false → pointwise nat_eq word text ≡ false
other_length word text h =
    false_from_ne_true (pointwise nat_eq word text) (λ e. eqb-false _ _ h (ap length (sym (same_text word text (sym e)))))

-- the step of `is_one_of-length`
one_more : (b : Bool) (word text : List ℕ) (words kept : List (List ℕ)) → (b ≡ false → pointwise nat_eq word text ≡ false)
    → is_one_of words text ≡ is_one_of kept text
    → is_one_of (word ∷ words) text ≡ is_one_of (cond b (word ∷ kept) kept) text
one_more true word text words kept h e = ap (λ r. pointwise nat_eq word text || r) e
one_more false word text words kept h e = rw (h refl) e

-- only the words of the text's length count
pub is_one_of-length : (words : List (List ℕ)) (text : List ℕ) → is_one_of words text ≡ is_one_of (of_length (length text) words) text
is_one_of-length [] text = refl
is_one_of-length (word ∷ words) text =
    one_more (length text == length word) word text words (of_length (length text) words) (other_length word text) (is_one_of-length words text)

-- words behind references are compared by their bytes
pub list_any-now : (words : List (Bor (List ℕ))) (text : List ℕ)
    → list_any (λ word. pointwise nat_eq word.now text) words ≡ is_one_of (map (λ word. word.now) words) text
list_any-now [] text = refl
list_any-now (word ∷ words) text = ap (λ r. pointwise nat_eq word.now text || r) (list_any-now words text)
