-- How many bytes a token counts, and tokens: as many as it has, and one where it has none, which no token of a source is. A number that no
-- source has, and a line beyond what an image has room for, count more than any source has: so neither is in a tree.
use Rattle.std.proofs.Common.{◌≡◌, ℕ, suc, ◌+◌, ◌<◌, ◌≤◌, ◌^◌, ◌==◌, nat_lt, Bool, true, false, cond, List, [], ◌∷◌, ◌++◌, length, refl, ap, ◌∙◌, arith, length-append}
use Rattle.std.proofs.lemmas.Bool.{lt-ltb, ltb-true}
use Rattle.rb_base.specs.declared.edition.Edition.{Edition}
use Rattle.rb_base.specs.declared.limits.TheConstants.{MOST_BYTES}
use Rattle.rb_base.specs.declared.place.Place.{Place}
use Rattle.rb_lex.specs.Bytes.{first_place, place_after, place_past}
use Rattle.rb_lex.specs.Tokens.{Lexeme, Ending, Tokens, TokensFrom, no_more, one_more, a_fault, edition_of}
use Rattle.rb_lex.proofs.Landing.{found-stands}
use Rattle.rb_sizes.proofs.Weighing.Numbers.{kind_extra, found_fits}

-- how many bytes a text counts
pub size : List ℕ → ℕ
size [] = 1
size (b ∷ bs) = suc (length bs)

pub size_some : (text : List ℕ) → 1 ≤ size text
unfolding size
size_some [] = omega arith
size_some (b ∷ bs) = omega arith

pub size_long : (text : List ℕ) → length text ≤ size text
unfolding size
size_long [] = omega arith
size_long (b ∷ bs) = omega arith

size_is : (text : List ℕ) → 1 ≤ length text → size text ≡ length text
unfolding size
size_is [] some = absurd (omega arith)
size_is (b ∷ bs) some = omega arith

-- what a line counts beside its bytes: nothing, but beyond 32 bits more than any source has
pub line_extra : ℕ → ℕ
line_extra n = cond (nat_lt n (2 ^ 32)) 0 (2 ^ 32)

pub line_fits : (n : ℕ) → line_extra n < 2 ^ 32 → n < 2 ^ 32
unfolding line_extra
line_fits n h = by (nat_lt n (2 ^ 32)) refl h
  where
    by : (t : Bool) → nat_lt n (2 ^ 32) ≡ t → cond t 0 (2 ^ 32) < 2 ^ 32 → n < 2 ^ 32
    by true e h = ltb-true n (2 ^ 32) e
    by false e h = absurd (omega (arith, h))

line_small : (n : ℕ) → n < 2 ^ 32 → line_extra n ≡ 0
unfolding line_extra
line_small n h = ap (λ t. cond t 0 (2 ^ 32)) (lt-ltb n (2 ^ 32) h)

-- and tokens
pub total : List Lexeme → ℕ
total [] = 0
total (token ∷ tokens) = size token.text + kind_extra token.kind + line_extra token.place.line + total tokens

total_none : total [] ≡ 0
unfolding total
total_none = refl

total_more : (token : Lexeme) (tokens : List Lexeme)
    → total (token ∷ tokens) ≡ size token.text + kind_extra token.kind + line_extra token.place.line + total tokens
unfolding total
total_more token tokens = refl

pub total_first : (token : Lexeme) (tokens others : List Lexeme) → tokens ≡ token ∷ others
    → total tokens ≡ size token.text + kind_extra token.kind + line_extra token.place.line + total others
total_first token tokens others e = ap total e ∙ total_more token others

-- bytes lead on by as many lines at most
step_lines : (t : Bool) (p : Place)
    → (cond t (let q : Place = record { line = p.line + 1; column = 1 } in q) (record { line = p.line; column = p.column + 1 })).line ≤ p.line + 1
step_lines true p = omega arith
step_lines false p = omega arith

lines_past : (p : Place) (bytes : List ℕ) → (place_past p bytes).line ≤ p.line + length bytes
lines_past p [] = omega arith
lines_past p (b ∷ bs) =
    let rest = lines_past (place_after p b) bs in
    let step : (place_after p b).line ≤ p.line + 1 = step_lines (b == 10) p in
    omega arith

-- those of a source count no more bytes than it has
total_from : (edition : Edition) (p : Place) (bytes : List ℕ) (tokens : List Lexeme) (ending : Ending) → TokensFrom edition p bytes tokens ending
    → p.line + length bytes < 2 ^ 32 → total tokens ≤ length bytes
total_from edition _ _ _ _ (no_more p bytes at e) few = let none = total_none in omega arith
total_from edition _ _ _ _ (a_fault p bytes fault e) few = let none = total_none in omega arith
total_from edition _ _ _ _ (one_more p bytes token at left tokens ending e rest) few =
    let s = found-stands edition false p bytes token at left e in
    let all : length bytes ≡ length s.gap + (length token.text + length left) =
    ap length s.parts ∙ length-append s.gap (token.text ++ left) ∙ ap (λ n. length s.gap + n) (length-append token.text left) in
    let begins = ap (λ (q : Place). q.line) s.begins in
    let before = lines_past p s.gap in
    let ends = ap (λ (q : Place). q.line) s.ends in
    let inside = lines_past token.place token.text in
    let line = line_small token.place.line (omega arith) in
    let kind = found_fits edition p bytes token at left e in
    let first = size_is token.text s.some in
    let later = total_from edition at left tokens ending rest (omega arith) in
    let both = total_more token tokens in
    omega arith

pub total_fits : (source : List ℕ) (tokens : List Lexeme) (ending : Ending) → length source ≤ MOST_BYTES → Tokens source tokens ending
    → total tokens ≤ length source
total_fits source tokens ending short cut = total_from (edition_of source) first_place source tokens ending cut (omega arith)
