-- Numbers of a source fit 64 bits: one that does not counts more than any source has bytes.
use Rattle.std.proofs.Common.{◌≡◌, ℕ, ℤ, pos, negsuc, ◌+◌, ◌<◌, ◌≤◌, ◌^◌, ◌==◌, nat_le, nat_lt, Bool, true, false, not, ◌||◌, cond, List, [], ◌∷◌, length, take, take_while, refl, ap, subst, arith}
use Rattle.std.specs.Prelude.{FitsSigned}
use Rattle.std.specs.Int.{w64}
use Rattle.std.proofs.lemmas.Bool.{le-leb, leb-true, ltb-false}
use Rattle.rb_base.specs.Reserved.{is_one_of, is_reserved}
use Rattle.rb_base.specs.Bytes.{digits_value, is_digit, is_letter, is_name_byte}
use Rattle.rb_base.specs.declared.edition.Edition.{Edition}
use Rattle.rb_base.specs.declared.limits.TheConstants.{LARGEST_NUMBER, LONGEST_NAME, LONGEST_TEXT}
use Rattle.rb_base.specs.declared.place.Place.{Place}
use Rattle.rb_lex.specs.declared.token.Kind.{Kind}
use Rattle.rb_lex.specs.declared.token.Kind.TheVariants as kinds
use Rattle.rb_lex.specs.Bytes.{is_blank, is_comment_byte, is_printable, place_after}
use Rattle.rb_lex.specs.Tokens.{Lexeme, Front, Whole, Faulty, Next, End, Found, Refused, cut, front, next_from, one_marks, own_marks, text_front, two_marks}

-- what a number counts beside its bytes: nothing, where a source may have it
pub number_extra : ℤ → ℕ
number_extra (pos n) = cond (nat_le n LARGEST_NUMBER) 0 (2 ^ 32)
number_extra (negsuc n) = 2 ^ 32

pub number_fits : (value : ℤ) → number_extra value < 2 ^ 32 → FitsSigned w64 value
unfolding number_extra
number_fits (pos n) h = by (nat_le n LARGEST_NUMBER) refl h
  where
    by : (t : Bool) → nat_le n LARGEST_NUMBER ≡ t → cond t 0 (2 ^ 32) < 2 ^ 32 → FitsSigned w64 (pos n)
    by true e h = let few = leb-true n LARGEST_NUMBER e in omega arith
    by false e h = absurd (omega (arith, h))
number_fits (negsuc n) h = absurd (omega (arith, h))

number_small : (n : ℕ) → n ≤ LARGEST_NUMBER → number_extra (pos n) ≡ 0
unfolding number_extra
number_small n h = ap (λ t. cond t 0 (2 ^ 32)) (le-leb n LARGEST_NUMBER h)

-- what a token's kind counts beside its bytes
abbrev pub kind_extra : Kind → ℕ
kind_extra (kinds.Number value) = number_extra value
kind_extra _ = 0

abbrev FrontFits : Front → Type 0
FrontFits (Whole kind n) = kind_extra kind ≡ 0
FrontFits (Faulty name n) = Unit {0}

abbrev NextFits : Next → Type 0
NextFits (End at) = Unit {0}
NextFits (Found token at left) = kind_extra token.kind ≡ 0
NextFits (Refused fault) = Unit {0}

choice : (r : Bool) (f g : Front) → (r ≡ true → FrontFits f) → (r ≡ false → FrontFits g) → FrontFits (cond r f g)
choice true f g at_true at_false = at_true refl
choice false f g at_true at_false = at_false refl

next_choice : (r : Bool) (f g : Next) → NextFits f → NextFits g → NextFits (cond r f g)
next_choice true f g first second = first
next_choice false f g first second = second

word_fits : (reserved : Bool) → kind_extra (cond reserved kinds.Word kinds.Name) ≡ 0
word_fits true = refl
word_fits false = refl

text_fits : (n : ℕ) (bytes : List ℕ) → FrontFits (text_front n bytes)
text_fits n [] = tt
text_fits n (b ∷ bs) =
    choice (b == 34) _ _ (λ _. refl)
    (λ _. choice (b == 10 || b == 13) _ _ (λ _. tt)
    (λ _. choice (nat_le LONGEST_TEXT n) _ _ (λ _. tt)
    (λ _. choice (not (is_printable b)) _ _ (λ _. tt) (λ _. text_fits (n + 1) bs))))

front_fits : (edition : Edition) (b : ℕ) (bs : List ℕ) → FrontFits (front edition (b ∷ bs))
front_fits edition b bs =
    let name = take_while is_name_byte (b ∷ bs) in
    let digits = take_while is_digit (b ∷ bs) in
    choice (is_letter b) _ _ (λ _. choice (nat_lt LONGEST_NAME (length name)) _ _ (λ _. tt) (λ _. word_fits (is_reserved edition name)))
    (λ _. choice (is_digit b) _ _
    (λ _. choice (nat_lt LARGEST_NUMBER (digits_value 0 digits)) _ _ (λ _. tt)
    (λ few. number_small (digits_value 0 digits) (ltb-false LARGEST_NUMBER (digits_value 0 digits) few)))
    (λ _. choice (b == 34) _ _ (λ _. text_fits 0 bs)
    (λ _. choice (is_one_of two_marks (take 2 (b ∷ bs))) _ _ (λ _. refl)
    (λ _. choice (is_one_of one_marks (take 1 (b ∷ bs)) || is_one_of (own_marks edition) (take 1 (b ∷ bs))) _ _ (λ _. refl) (λ _. tt)))))

cut_fits : (f : Front) (p : Place) (bytes : List ℕ) → FrontFits f → NextFits (cut f p bytes)
cut_fits (Whole kind n) p bytes h = h
cut_fits (Faulty name n) p bytes h = tt

next_fits : (edition : Edition) (comment : Bool) (p : Place) (bytes : List ℕ) → NextFits (next_from edition comment p bytes)
next_fits edition comment p [] = tt
next_fits edition true p (b ∷ bs) =
    next_choice (b == 10) _ _ (next_fits edition false (place_after p b) bs)
    (next_choice (is_comment_byte b) _ _ (next_fits edition true (place_after p b) bs) tt)
next_fits edition false p (b ∷ bs) =
    next_choice (is_blank b) _ _ (next_fits edition false (place_after p b) bs)
    (next_choice (b == 35) _ _ (next_fits edition true (place_after p b) bs)
    (cut_fits (front edition (b ∷ bs)) p (b ∷ bs) (front_fits edition b bs)))

-- what comes next in a source has no number beyond
pub found_fits : (edition : Edition) (p : Place) (bytes : List ℕ) (token : Lexeme) (at : Place) (left : List ℕ)
    → next_from edition false p bytes ≡ Found token at left → kind_extra token.kind ≡ 0
found_fits edition p bytes token at left e = subst NextFits e (next_fits edition false p bytes)
