-- What stands at the front, by the tests of its first byte.
use Rattle.std.proofs.Common.{◌≡◌, ◌≢◌, ℕ, ◌+◌, ◌-◌, ◌==◌, ◌≤◌, ◌<◌, nat_le, Bool, true, false, not, ◌||◌, cond, List, [], ◌∷◌, length, get_or, take, drop, take_while, ap, sym, ◌∙◌, eq-eqb, arith}
use Rattle.std.proofs.Math.Seq.{take-length}
use Rattle.std.proofs.lemmas.Bool.{eqb-true, false_from_ne_true, lt-leb}
use Rattle.rb_base.specs.Bytes.{is_letter, is_digit, is_name_byte}
use Rattle.rb_base.specs.declared.edition.Edition.{Edition}
use Rattle.rb_base.specs.declared.fault.FaultName.TheVariants.{X1, X2, X4}
use Rattle.rb_base.specs.declared.limits.TheConstants.{LONGEST_TEXT}
use Rattle.rb_lex.specs.declared.token.Kind.TheVariants.{Text}
use Rattle.rb_lex.specs.Bytes.{is_printable}
use Rattle.rb_lex.specs.Tokens.{Front, Whole, Faulty, front, mark_front, name_front, number_front, text_front}

-- what a slice pattern leaves after the first byte
pub rest_cons : (b : ℕ) (bs : List ℕ) → take (length (b ∷ bs) - 1) (drop 1 (b ∷ bs)) ≡ bs
rest_cons b bs = let one_less : length (b ∷ bs) - 1 ≡ length bs = omega arith in
    ap (λ n. take n bs) one_less ∙ take-length bs

-- a test of equality that does not hold
differs : (a b : ℕ) → a ≢ b → (a == b) ≡ false
differs a b ne = false_from_ne_true (a == b) (λ same. ne (eqb-true a b same))

-- what stands at the front, by what its first byte is
abbrev front_by : Bool → Bool → Bool → Edition → ℕ → List ℕ → Front
front_by letter digit quote edition b bs =
    cond letter (name_front edition (take_while is_name_byte (b ∷ bs)))
    (cond digit (number_front (take_while is_digit (b ∷ bs))) (cond quote (text_front 0 bs) (mark_front edition (b ∷ bs))))

-- a name
pub front_word : (edition : Edition) (bytes : List ℕ) → 1 ≤ length bytes → true ≡ is_letter (get_or bytes 0 0)
    → name_front edition (take_while is_name_byte bytes) ≡ front edition bytes
front_word edition [] some letter = absurd (omega arith)
front_word edition (b ∷ bs) some letter = ap (λ t. front_by t (is_digit b) (b == 34) edition b bs) letter

-- a text, after its quote
pub front_text : (edition : Edition) (bytes : List ℕ) → 1 ≤ length bytes → false ≡ is_letter (get_or bytes 0 0)
    → false ≡ is_digit (get_or bytes 0 0) → get_or bytes 0 0 ≡ 34
    → text_front 0 (take (length bytes - 1) (drop 1 bytes)) ≡ front edition bytes
front_text edition [] some letter digit quote = absurd (omega arith)
front_text edition (b ∷ bs) some letter digit quote =
    let quoted : true ≡ (b == 34) = sym (eq-eqb b 34 quote) in
    ap (text_front 0) (rest_cons b bs) ∙ (λ i. front_by (letter i) (digit i) (quoted i) edition b bs)

-- a mark
pub front_mark : (edition : Edition) (bytes : List ℕ) → 1 ≤ length bytes → false ≡ is_letter (get_or bytes 0 0)
    → false ≡ is_digit (get_or bytes 0 0) → get_or bytes 0 0 ≢ 34 → mark_front edition bytes ≡ front edition bytes
front_mark edition [] some letter digit quote = absurd (omega arith)
front_mark edition (b ∷ bs) some letter digit quote =
    let unquoted : false ≡ (b == 34) = sym (differs b 34 quote) in λ i. front_by (letter i) (digit i) (unquoted i) edition b bs

-- a text, by what its next byte is
abbrev text_by : Bool → Bool → Bool → Bool → ℕ → List ℕ → Front
text_by quote ends full printable n bs =
    cond quote (Whole Text (n + 2))
    (cond ends (Faulty X2 0) (cond full (Faulty X4 0) (cond (not printable) (Faulty X1 (n + 1)) (text_front (n + 1) bs))))

-- a byte of a text is passed
pub text_on : (n : ℕ) (bytes : List ℕ) → 1 ≤ length bytes → get_or bytes 0 0 ≢ 34 → get_or bytes 0 0 ≢ 10 → get_or bytes 0 0 ≢ 13
    → n < LONGEST_TEXT → true ≡ is_printable (get_or bytes 0 0)
    → text_front (n + 1) (take (length bytes - 1) (drop 1 bytes)) ≡ text_front n bytes
text_on n [] some quote lf cr few printable = absurd (omega arith)
text_on n (b ∷ bs) some quote lf cr few printable =
    let unquoted : false ≡ (b == 34) = sym (differs b 34 quote) in
    let no_lf : false ≡ (b == 10) = sym (differs b 10 lf) in
    let no_cr : false ≡ (b == 13) = sym (differs b 13 cr) in
    let more : false ≡ nat_le LONGEST_TEXT n = sym (lt-leb LONGEST_TEXT n few) in
    ap (text_front (n + 1)) (rest_cons b bs) ∙ (λ i. text_by (unquoted i) (no_lf i || no_cr i) (more i) (printable i) n bs)
