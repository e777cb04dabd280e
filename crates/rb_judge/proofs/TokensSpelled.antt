-- How the tokens of a source are spelled: names are short and none of the words of its edition, and a text holds few bytes, each of which
-- may stand between quotes.
use Rattle.std.proofs.Common.{◌≡◌, ℕ, pos, ◌+◌, ◌-◌, ◌==◌, ◌≤◌, nat_lt, nat_le, nat_eq, Bool, true, false, not, ◌&&◌, ◌||◌, cond, List, [], ◌∷◌, ◌++◌, length, take, take_while, Some, refl, ap, sym, subst, ◌∙◌, arith, length-append, append_assoc}
use Rattle.std.specs.List.{AllByRecursion, list_all, prefix_len}
use Rattle.std.specs.Ordering.{int_eq}
use Rattle.std.proofs.lemmas.Bool.{and_from, eqb-true, leb-false, ltb-false, not_from_false, not-false, or_left}
use Rattle.std.proofs.lemmas.List.{take_at, length-take-le}
use Rattle.std.proofs.lemmas.List.Folds.{list_all-append}
use Rattle.std.proofs.lemmas.List.Sums.{take_while-cons, prefix_len-le-length}
use Rattle.rb_base.specs.Reserved.{is_one_of, is_reserved}
use Rattle.rb_base.specs.Bytes.{digits_value, is_digit, is_letter, is_name, is_name_byte}
use Rattle.rb_base.specs.declared.edition.Edition.{Edition}
use Rattle.rb_base.specs.declared.limits.TheConstants.{LARGEST_NUMBER, LONGEST_NAME, LONGEST_TEXT}
use Rattle.rb_base.specs.declared.place.Place.{Place}
use Rattle.rb_lex.specs.Bytes.{is_blank, is_comment_byte, is_printable, place_after}
use Rattle.rb_lex.specs.Tokens.{Lexeme, Front, Whole, Faulty, Next, End, Found, Refused, Ending, TokensFrom, no_more, one_more, a_fault, cut, front, mark_front, name_front, next_from, number_front, one_marks, own_marks, text_front, two_marks}
use Rattle.rb_lex.specs.declared.token.Kind.{Kind}
use Rattle.rb_lex.specs.declared.token.Kind.TheVariants as kinds
use Rattle.rb_grammar.specs.declared.terminal.Terminal.{Terminal}
use Rattle.rb_grammar.specs.declared.terminal.Terminal.TheVariants as terminals
use Rattle.rb_grammar.specs.Machine.{is_same}
use Rattle.rb_grammar.specs.Taking.{between_quotes}
use Rattle.rb_grammar.specs.Terminals.{marks, terminal_of, terminal_of_kind, words}
use Rattle.rb_grammar.proofs.Spelled.{spelled_all}
use Rattle.rb_scope.specs.Spelled.{IsNaming, IsQuotable, is_quotable}

-- how a token of a kind is spelled in an edition
abbrev pub KindSpelled : Edition → Kind → List ℕ → Type 0
KindSpelled edition kinds.Name text = IsNaming edition text
KindSpelled edition (kinds.Number value) text = Unit {0}
KindSpelled edition kinds.Text text = IsQuotable (between_quotes text)
KindSpelled edition kinds.Word text = Unit {0}
KindSpelled edition kinds.Mark text = Unit {0}

abbrev pub TokenSpelled : Edition → Lexeme → Type 0
TokenSpelled edition token = KindSpelled edition token.kind token.text

abbrev FrontSpelled : Edition → Front → List ℕ → Type 0
FrontSpelled edition (Whole kind n) bytes = KindSpelled edition kind (take n bytes)
FrontSpelled edition (Faulty name n) bytes = Unit {0}

abbrev NextSpelled : Edition → Next → Type 0
NextSpelled edition (End at) = Unit {0}
NextSpelled edition (Found token at left) = TokenSpelled edition token
NextSpelled edition (Refused fault) = Unit {0}

-- a choice is spelled if both of its sides are
choice : (edition : Edition) (r : Bool) (f g : Front) (bytes : List ℕ) → (r ≡ true → FrontSpelled edition f bytes)
    → (r ≡ false → FrontSpelled edition g bytes) → FrontSpelled edition (cond r f g) bytes
choice edition true f g bytes at_true at_false = at_true refl
choice edition false f g bytes at_true at_false = at_false refl

next_choice : (edition : Edition) (r : Bool) (f g : Next) → NextSpelled edition f → NextSpelled edition g
    → NextSpelled edition (cond r f g)
next_choice edition true f g first second = first
next_choice edition false f g first second = second

-- a run of bytes at the front passes their test
run_more : (test : ℕ → Bool) (b : ℕ) (run : List ℕ) (r : Bool) → test b ≡ r → list_all test run ≡ true
    → list_all test (cond r (b ∷ run) []) ≡ true
run_more test b run true e h = and_from (test b) (list_all test run) e h
run_more test b run false e h = refl

run_passes : (test : ℕ → Bool) (bytes : List ℕ) → list_all test (take_while test bytes) ≡ true
run_passes test [] = refl
run_passes test (b ∷ bs) =
    ap (list_all test) (take_while-cons test b bs) ∙ run_more test b (take_while test bs) (test b) refl (run_passes test bs)

-- as long as it is, it is what stands at the front
run_taken : (test : ℕ → Bool) (bytes : List ℕ) → take (length (take_while test bytes)) bytes ≡ take_while test bytes
run_taken test bytes =
    ap (λ n. take n bytes) (length-take-le (prefix_len test bytes) bytes (prefix_len-le-length test bytes))

-- a letter begins a name
name_run : (b : ℕ) (bs : List ℕ) → is_letter b ≡ true → is_name (take_while is_name_byte (b ∷ bs)) ≡ true
name_run b bs e =
    let may : is_name_byte b ≡ true = or_left (is_letter b || is_digit b) (b == 95) (or_left (is_letter b) (is_digit b) e) in
    let begins : take_while is_name_byte (b ∷ bs) ≡ b ∷ take_while is_name_byte bs =
    take_while-cons is_name_byte b bs ∙ ap (λ r. cond r (b ∷ take_while is_name_byte bs) []) may in
    ap is_name begins ∙ and_from (is_letter b) (list_all is_name_byte (take_while is_name_byte bs)) e (run_passes is_name_byte bs)

-- a name that is no word
name_kind : (edition : Edition) (text : List ℕ) (reserved : Bool) → is_reserved edition text ≡ reserved → is_name text ≡ true
    → length text ≤ LONGEST_NAME → KindSpelled edition (cond reserved kinds.Word kinds.Name) text
name_kind edition text true e named few = tt
name_kind edition text false e named few = (named, few, e)

name_spelled : (edition : Edition) (b : ℕ) (bs : List ℕ) → is_letter b ≡ true
    → FrontSpelled edition (name_front edition (take_while is_name_byte (b ∷ bs))) (b ∷ bs)
name_spelled edition b bs e =
    let name = take_while is_name_byte (b ∷ bs) in
    choice edition (nat_lt LONGEST_NAME (length name)) _ _ (b ∷ bs) (λ _. tt)
    (λ few. subst (KindSpelled edition (cond (is_reserved edition name) kinds.Word kinds.Name)) (sym (run_taken is_name_byte (b ∷ bs)))
    (name_kind edition name (is_reserved edition name) refl (name_run b bs e) (ltb-false LONGEST_NAME (length name) few)))

number_spelled : (edition : Edition) (digits bytes : List ℕ) → FrontSpelled edition (number_front digits) bytes
number_spelled edition digits bytes =
    choice edition (nat_lt LARGEST_NUMBER (digits_value 0 digits)) _ _ bytes (λ _. tt) (λ _. tt)

mark_spelled : (edition : Edition) (bytes : List ℕ) → FrontSpelled edition (mark_front edition bytes) bytes
mark_spelled edition bytes =
    choice edition (is_one_of two_marks (take 2 bytes)) _ _ bytes (λ _. tt)
    (λ _. choice edition (is_one_of one_marks (take 1 bytes) || is_one_of (own_marks edition) (take 1 bytes)) _ _ bytes (λ _. tt)
    (λ _. tt))

-- a byte of a text
quotable : (b : ℕ) → b == 34 ≡ false → not (is_printable b) ≡ false → is_quotable b ≡ true
quotable b quote printable =
    and_from (is_printable b) (not (nat_eq b 34)) (not-false (is_printable b) printable) (not_from_false (nat_eq b 34) quote)

-- what stands between the quotes of a text
between : (passed : List ℕ) (b : ℕ) (bs : List ℕ) (n : ℕ) → length passed ≡ n
    → between_quotes (take (n + 2) (34 ∷ passed ++ b ∷ bs)) ≡ passed
between passed b bs n e =
    let whole : List ℕ = 34 ∷ passed ++ b ∷ [] in
    let long : length whole ≡ n + 2 = omega (arith, length-append passed (b ∷ []), e) in
    let cut_off : take (n + 2) (34 ∷ passed ++ b ∷ bs) ≡ whole =
    ap (λ rest. take (n + 2) (34 ∷ rest)) (sym (append_assoc passed (b ∷ []) bs)) ∙ take_at whole bs (n + 2) long in
    let inner : length whole - 2 ≡ n = omega arith in
    ap between_quotes cut_off ∙ ap (λ k. take k (passed ++ b ∷ [])) inner ∙ take_at passed (b ∷ []) n e

-- a text whose quote and n bytes more are passed
text_spelled : (edition : Edition) (n : ℕ) (passed bytes : List ℕ) → length passed ≡ n → list_all is_quotable passed ≡ true → n ≤ LONGEST_TEXT
    → FrontSpelled edition (text_front n bytes) (34 ∷ passed ++ bytes)
text_spelled edition n passed [] e each few = tt
text_spelled edition n passed (b ∷ bs) e each few =
    let whole = 34 ∷ passed ++ b ∷ bs in
    choice edition (b == 34) _ _ whole (λ _. subst IsQuotable (sym (between passed b bs n e)) (each, (omega arith)))
    (λ quote. choice edition (b == 10 || b == 13) _ _ whole (λ _. tt)
    (λ _. choice edition (nat_le LONGEST_TEXT n) _ _ whole (λ _. tt)
    (λ more. choice edition (not (is_printable b)) _ _ whole (λ _. tt)
    (λ printable.
    let less = leb-false LONGEST_TEXT n more in
    let longer : List ℕ = passed ++ b ∷ [] in
    let long : length longer ≡ n + 1 = omega (arith, length-append passed (b ∷ []), e) in
    let still : list_all is_quotable longer ≡ true =
    list_all-append is_quotable passed (b ∷ []) ∙ and_from (list_all is_quotable passed) (list_all is_quotable (b ∷ [])) each
    (and_from (is_quotable b) true (quotable b quote printable) refl) in
    subst (λ rest. FrontSpelled edition (text_front (n + 1) bs) (34 ∷ rest)) (append_assoc passed (b ∷ []) bs)
    (text_spelled edition (n + 1) longer bs long still (omega arith))))))

-- what stands at a front
front_spelled : (edition : Edition) (b : ℕ) (bs : List ℕ) → FrontSpelled edition (front edition (b ∷ bs)) (b ∷ bs)
front_spelled edition b bs =
    choice edition (is_letter b) _ _ (b ∷ bs) (name_spelled edition b bs)
    (λ _. choice edition (is_digit b) _ _ (b ∷ bs) (λ _. number_spelled edition (take_while is_digit (b ∷ bs)) (b ∷ bs))
    (λ _. choice edition (b == 34) _ _ (b ∷ bs)
    (λ quote. subst (λ q. FrontSpelled edition (text_front 0 bs) (q ∷ bs)) (sym (eqb-true b 34 quote))
    (text_spelled edition 0 [] bs refl refl (omega arith)))
    (λ _. mark_spelled edition (b ∷ bs))))

cut_spelled : (edition : Edition) (f : Front) (p : Place) (bytes : List ℕ) → FrontSpelled edition f bytes → NextSpelled edition (cut f p bytes)
cut_spelled edition (Whole kind n) p bytes h = h
cut_spelled edition (Faulty name n) p bytes h = tt

-- what comes next, from any place
next_spelled : (edition : Edition) (comment : Bool) (p : Place) (bytes : List ℕ) → NextSpelled edition (next_from edition comment p bytes)
next_spelled edition comment p [] = tt
next_spelled edition true p (b ∷ bs) =
    next_choice edition (b == 10) _ _ (next_spelled edition false (place_after p b) bs)
    (next_choice edition (is_comment_byte b) _ _ (next_spelled edition true (place_after p b) bs) tt)
next_spelled edition false p (b ∷ bs) =
    next_choice edition (is_blank b) _ _ (next_spelled edition false (place_after p b) bs)
    (next_choice edition (b == 35) _ _ (next_spelled edition true (place_after p b) bs)
    (cut_spelled edition (front edition (b ∷ bs)) p (b ∷ bs) (front_spelled edition b bs)))

-- all tokens
pub tokens_spelled : {edition : Edition} {p : Place} {bytes : List ℕ} {tokens : List Lexeme} {ending : Ending}
    → TokensFrom edition p bytes tokens ending → AllByRecursion (TokenSpelled edition) tokens
tokens_spelled (no_more p bytes at e) = tt
tokens_spelled (a_fault p bytes fault e) = tt
tokens_spelled {edition = edition} (one_more p bytes token at left tokens ending e rest) =
    (subst (NextSpelled edition) e (next_spelled edition false p bytes), tokens_spelled rest)

-- no word and no mark is spelled as a terminal that is none of theirs
abbrev is_fixed : Terminal → Bool
is_fixed terminal = not (is_same terminal terminals.Name) && not (is_same terminal terminals.Text)

two_or_another : (test : Bool) (terminal : Terminal) → is_fixed terminal ≡ false
    → Some (cond test terminals.Two terminals.Number) ≡ Some terminal → ⊥
two_or_another true terminal fixed e = cc
two_or_another false terminal fixed e = cc

-- so what stands for a name is a name, and what stands for a text is a text
module _ (edition : Edition) where
  name_of_kind : (kind : Kind) (text : List ℕ) → terminal_of_kind kind text ≡ Some terminals.Name → KindSpelled edition kind text
      → IsNaming edition text
  name_of_kind kinds.Name text e h = h
  name_of_kind (kinds.Number value) text e h = absurd (two_or_another (int_eq value (pos 2)) terminals.Name refl e)
  name_of_kind kinds.Text text e h = absurd cc
  name_of_kind kinds.Word text e h = absurd (let fixed = spelled_all is_fixed text words terminals.Name refl e in cc)
  name_of_kind kinds.Mark text e h = absurd (let fixed = spelled_all is_fixed text marks terminals.Name refl e in cc)

  text_of_kind : (kind : Kind) (text : List ℕ) → terminal_of_kind kind text ≡ Some terminals.Text → KindSpelled edition kind text
      → IsQuotable (between_quotes text)
  text_of_kind kinds.Name text e h = absurd cc
  text_of_kind (kinds.Number value) text e h = absurd (two_or_another (int_eq value (pos 2)) terminals.Text refl e)
  text_of_kind kinds.Text text e h = h
  text_of_kind kinds.Word text e h = absurd (let fixed = spelled_all is_fixed text words terminals.Text refl e in cc)
  text_of_kind kinds.Mark text e h = absurd (let fixed = spelled_all is_fixed text marks terminals.Text refl e in cc)

  pub name_is : (token : Lexeme) → terminal_of token ≡ Some terminals.Name → TokenSpelled edition token → IsNaming edition token.text
  name_is token e h = name_of_kind token.kind token.text e h

  pub text_is : (token : Lexeme) → terminal_of token ≡ Some terminals.Text → TokenSpelled edition token
      → IsQuotable (between_quotes token.text)
  text_is token e h = text_of_kind token.kind token.text e h
