-- What stands at a front is a part of the bytes that holds no LF, and a token takes a byte at least.
use Rattle.std.proofs.Common.{◌≡◌, ℕ, pos, ◌+◌, ◌==◌, ◌≤◌, ◌<◌, nat_lt, nat_le, nat_eq, Bool, true, false, not, ◌&&◌, ◌||◌, cond, List, [], ◌∷◌, ◌++◌, length, take, take_while, refl, ap, sym, subst, ◌∙◌, inl, inr, arith, length-take, length-append, append_assoc}
use Rattle.std.specs.List.{list_all, prefix_len}
use Rattle.std.specs.Cmp.Lexicographic.{pointwise, same_text}
use Rattle.std.proofs.lemmas.Bool.{or_cases, or_left, and_from, and_parts, not_from_false, not-false, false_from_ne_true, eqb-true, true≢false, cond_both}
use Rattle.std.proofs.lemmas.List.{take_at, length-take-le}
use Rattle.std.proofs.lemmas.List.Folds.{list_all-append}
use Rattle.std.proofs.lemmas.List.Sums.{take_while-cons, prefix_len-le-length}
use Rattle.rb_base.specs.Reserved.{is_one_of, is_reserved}
use Rattle.rb_base.specs.declared.edition.Edition.{Edition}
use Rattle.rb_base.specs.declared.edition.Edition.TheVariants.{First, Second}
use Rattle.rb_base.specs.declared.limits.TheConstants.{LARGEST_NUMBER, LONGEST_NAME, LONGEST_TEXT}
use Rattle.rb_base.specs.Bytes.{is_letter, is_digit, is_name_byte, digits_value}
use Rattle.rb_lex.specs.declared.token.Kind.{Kind}
use Rattle.rb_lex.specs.declared.token.Kind.TheVariants.{Number, Text, Mark, Name, Word}
use Rattle.rb_base.specs.declared.fault.FaultName.{FaultName}
use Rattle.rb_base.specs.declared.fault.FaultName.TheVariants.{X1, X2, X3, X4, X5}
use Rattle.rb_lex.specs.Tokens.{Front, Whole, Faulty, one_marks, two_marks, own_marks, name_front, number_front, text_front, mark_front, front}
use Rattle.rb_lex.specs.Bytes.{is_printable}

-- no byte is LF
abbrev pub has_no_lf : List ℕ → Bool
has_no_lf bytes = list_all (λ b. not (b == 10)) bytes

-- a token of one byte or more, or a fault at one of the bytes, and no LF before it
abbrev pub FrontStands : Front → List ℕ → Type 0
FrontStands (Whole kind n) bytes = (1 ≤ n) × (n ≤ length bytes) × (has_no_lf (take n bytes) ≡ true)
FrontStands (Faulty name n) bytes = (n < length bytes) × (has_no_lf (take n bytes) ≡ true)

-- a byte that passes a test which LF does not pass is no LF
not_lf : (test : ℕ → Bool) (b : ℕ) → test 10 ≡ false → test b ≡ true → not (b == 10) ≡ true
not_lf test b lf e =
    not_from_false (b == 10) (false_from_ne_true (b == 10) (λ h. true≢false (sym e ∙ ap test (eqb-true b 10 h) ∙ lf)))

-- the step of `run-no_lf`, over what the test says of the byte
run_more : (test : ℕ → Bool) (b : ℕ) (run : List ℕ) (r : Bool) → test 10 ≡ false → test b ≡ r → has_no_lf run ≡ true
    → has_no_lf (cond r (b ∷ run) []) ≡ true
run_more test b run true lf e h = and_from (not (b == 10)) (has_no_lf run) (not_lf test b lf e) h
run_more test b run false lf e h = refl

-- a run of bytes that pass such a test holds no LF
run-no_lf : (test : ℕ → Bool) (bytes : List ℕ) → test 10 ≡ false → has_no_lf (take_while test bytes) ≡ true
run-no_lf test [] lf = refl
run-no_lf test (b ∷ bs) lf =
    ap has_no_lf (take_while-cons test b bs) ∙ run_more test b (take_while test bs) (test b) lf refl (run-no_lf test bs lf)

-- a run of bytes at the front, its length and its first byte
length-run : (test : ℕ → Bool) (bytes : List ℕ) → length (take_while test bytes) ≡ prefix_len test bytes
length-run test bytes = length-take-le (prefix_len test bytes) bytes (prefix_len-le-length test bytes)

run_begins : (test : ℕ → Bool) (b : ℕ) (bs : List ℕ) → test b ≡ true → 1 ≤ length (take_while test (b ∷ bs))
run_begins test b bs e = rw (length-run test (b ∷ bs), e) (omega arith)

-- such a run is a token
run-stands : (kind : Kind) (test : ℕ → Bool) (b : ℕ) (bs : List ℕ) → test 10 ≡ false → test b ≡ true
    → FrontStands (Whole kind (length (take_while test (b ∷ bs)))) (b ∷ bs)
run-stands kind test b bs lf e = (
  run_begins test b bs e,
  omega (arith, length-run test (b ∷ bs), prefix_len-le-length test (b ∷ bs)),
  ap (λ n. has_no_lf (take n (b ∷ bs))) (length-run test (b ∷ bs)) ∙ run-no_lf test (b ∷ bs) lf,
)

-- a fault at the first byte
first_faulty : (name : FaultName) (b : ℕ) (bs : List ℕ) → FrontStands (Faulty name 0) (b ∷ bs)
first_faulty name b bs = (omega arith, refl)

-- names and numbers
name-stands : (edition : Edition) (b : ℕ) (bs : List ℕ) → is_letter b ≡ true
    → FrontStands (name_front edition (take_while is_name_byte (b ∷ bs))) (b ∷ bs)
name-stands edition b bs e =
    cond_both (nat_lt LONGEST_NAME (length (take_while is_name_byte (b ∷ bs)))) (Faulty X5 0)
    (Whole (cond (is_reserved edition (take_while is_name_byte (b ∷ bs))) Word Name) (length (take_while is_name_byte (b ∷ bs))))
    (λ f. FrontStands f (b ∷ bs)) (λ _. first_faulty X5 b bs)
    (λ _. run-stands (cond (is_reserved edition (take_while is_name_byte (b ∷ bs))) Word Name) is_name_byte b bs refl
    (or_left (is_letter b || is_digit b) (b == 95) (or_left (is_letter b) (is_digit b) e)))

number-stands : (b : ℕ) (bs : List ℕ) → is_digit b ≡ true → FrontStands (number_front (take_while is_digit (b ∷ bs))) (b ∷ bs)
number-stands b bs e =
    cond_both (nat_lt LARGEST_NUMBER (digits_value 0 (take_while is_digit (b ∷ bs)))) (Faulty X3 0)
    (Whole (Number (pos (digits_value 0 (take_while is_digit (b ∷ bs))))) (length (take_while is_digit (b ∷ bs))))
    (λ f. FrontStands f (b ∷ bs)) (λ _. first_faulty X3 b bs)
    (λ _. run-stands (Number (pos (digits_value 0 (take_while is_digit (b ∷ bs))))) is_digit b bs refl e)

-- one byte more
no_lf-push : (bytes : List ℕ) (b : ℕ) → has_no_lf bytes ≡ true → not (b == 10) ≡ true → has_no_lf (bytes ++ b ∷ []) ≡ true
no_lf-push bytes b h e =
    list_all-append (λ x. not (x == 10)) bytes (b ∷ []) ∙ and_from (has_no_lf bytes) (has_no_lf (b ∷ [])) h (and_from (not (b == 10)) true e refl)

-- a choice stands if both of its sides do
choice : (r : Bool) (f g : Front) (bytes : List ℕ) → (r ≡ true → FrontStands f bytes) → (r ≡ false → FrontStands g bytes)
    → FrontStands (cond r f g) bytes
choice true f g bytes at_true at_false = at_true refl
choice false f g bytes at_true at_false = at_false refl

-- the ways in which a text stops: its closing quote, a byte that no text holds, or a fault at its opening quote
closed : (n : ℕ) (passed : List ℕ) (b : ℕ) (bs : List ℕ) → length passed ≡ n + 1 → has_no_lf passed ≡ true
    → not (b == 10) ≡ true → FrontStands (Whole Text (n + 2)) (passed ++ b ∷ bs)
closed n passed b bs e h no_lf =
    let whole : length (passed ++ b ∷ []) ≡ n + 2 = omega (arith, length-append passed (b ∷ []), e) in (
      omega arith,
      omega (arith, length-append passed (b ∷ bs), e),
      rw (← append_assoc passed (b ∷ []) bs, take_at (passed ++ b ∷ []) bs (n + 2) whole) (no_lf-push passed b h no_lf),
    )

unprintable : (n : ℕ) (passed : List ℕ) (b : ℕ) (bs : List ℕ) → length passed ≡ n + 1 → has_no_lf passed ≡ true
    → FrontStands (Faulty X1 (n + 1)) (passed ++ b ∷ bs)
unprintable n passed b bs e h =
    (omega (arith, length-append passed (b ∷ bs), e), rw (take_at passed (b ∷ bs) (n + 1) e) h)

not_closed : (name : FaultName) (passed : List ℕ) (bytes : List ℕ) → 1 ≤ length passed → FrontStands (Faulty name 0) (passed ++ bytes)
not_closed name passed bytes h = (omega (arith, length-append passed bytes), refl)

-- a text whose quote and n bytes more are passed
text-stands : (n : ℕ) (passed bytes : List ℕ) → length passed ≡ n + 1 → has_no_lf passed ≡ true → FrontStands (text_front n bytes) (passed ++ bytes)
text-stands n passed [] e h = not_closed X2 passed [] (omega (arith, e))
text-stands n passed (b ∷ bs) e h =
    choice (b == 34) _ _ (passed ++ b ∷ bs) (λ q. closed n passed b bs e h (ap (λ x. not (x == 10)) (eqb-true b 34 q)))
    (λ _. choice (b == 10 || b == 13) _ _ (passed ++ b ∷ bs) (λ _. not_closed X2 passed (b ∷ bs) (omega (arith, e)))
    (λ _. choice (nat_le LONGEST_TEXT n) _ _ (passed ++ b ∷ bs) (λ _. not_closed X4 passed (b ∷ bs) (omega (arith, e)))
    (λ _. choice (not (is_printable b)) _ _ (passed ++ b ∷ bs) (λ _. unprintable n passed b bs e h)
    (λ q. subst (FrontStands (text_front (n + 1) bs)) (append_assoc passed (b ∷ []) bs)
    (text-stands (n + 1) (passed ++ b ∷ []) bs (omega (arith, length-append passed (b ∷ []), e))
    (no_lf-push passed b h (not_lf is_printable b refl (not-false (is_printable b) q))))))))

-- a test that each word of a list passes, a text passes if it is one of them
one_of-passes : (test : List ℕ → Bool) (words : List (List ℕ)) (text : List ℕ) → list_all test words ≡ true
    → is_one_of words text ≡ true → test text ≡ true
one_of-passes test [] text each h = cc
one_of-passes test (word ∷ words) text each h =
    let both = and_parts (test word) (list_all test words) each in
    elim (or_cases (pointwise nat_eq word text) (is_one_of words text) h) [
      | inl e ↦ ap test (sym (same_text word text (sym e)))
          ∙ both.0
      | inr e ↦ one_of-passes test words text both.1 e
    ]

-- n bytes with no LF
abbrev is_mark_of : ℕ → List ℕ → Bool
is_mark_of n text = (length text == n) && has_no_lf text

-- a mark of n bytes
whole_mark : (n : ℕ) (bytes : List ℕ) → 1 ≤ n → is_mark_of n (take n bytes) ≡ true → FrontStands (Whole Mark n) bytes
whole_mark n bytes h e =
    let both = and_parts (length (take n bytes) == n) (has_no_lf (take n bytes)) e in
    (h, omega (arith, length-take n bytes, eqb-true (length (take n bytes)) n both.0), both.1)

-- each mark that an edition has of its own is one byte
own-marks : (edition : Edition) → list_all (is_mark_of 1) (own_marks edition) ≡ true
own-marks First = refl
own-marks Second = refl

-- marks
mark-stands : (edition : Edition) (b : ℕ) (bs : List ℕ) → FrontStands (mark_front edition (b ∷ bs)) (b ∷ bs)
mark-stands edition b bs =
    choice (is_one_of two_marks (take 2 (b ∷ bs))) _ _ (b ∷ bs)
    (λ e. whole_mark 2 (b ∷ bs) (omega arith) (one_of-passes (is_mark_of 2) two_marks (take 2 (b ∷ bs)) refl e))
    (λ _. choice (is_one_of one_marks (take 1 (b ∷ bs)) || is_one_of (own_marks edition) (take 1 (b ∷ bs))) _ _ (b ∷ bs)
    (λ e. elim (or_cases (is_one_of one_marks (take 1 (b ∷ bs)))
    (is_one_of (own_marks edition) (take 1 (b ∷ bs))) e) [
      | inl h ↦ whole_mark 1 (b ∷ bs) (omega arith)
          (one_of-passes (is_mark_of 1) one_marks (take 1 (b ∷ bs)) refl h)
      | inr h ↦ whole_mark 1 (b ∷ bs) (omega arith)
          (one_of-passes (is_mark_of 1) (own_marks edition) (take 1 (b ∷ bs)) (own-marks edition) h)
    ])
    (λ _. first_faulty X1 b bs))

-- what stands at a front
pub front-stands : (edition : Edition) (b : ℕ) (bs : List ℕ) → FrontStands (front edition (b ∷ bs)) (b ∷ bs)
front-stands edition b bs =
    choice (is_letter b) _ _ (b ∷ bs) (name-stands edition b bs)
    (λ _. choice (is_digit b) _ _ (b ∷ bs) (number-stands b bs)
    (λ _. choice (b == 34) _ _ (b ∷ bs) (λ e. text-stands 0 (b ∷ []) bs refl (ap (λ x. has_no_lf (x ∷ [])) (eqb-true b 34 e)))
    (λ _. mark-stands edition b bs)))
