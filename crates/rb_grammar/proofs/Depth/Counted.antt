-- The tokens that a cursor gives, and all tokens: either they are the same, or the last one is the first bracket too many.
use Rattle.std.proofs.Common.{◌≡◌, ℕ, zero, suc, ◌<◌, ◌≤◌, Bool, true, false, cond, List, [], ◌∷◌, ◌++◌, refl, ap, subst, ◌∙◌, arith}
use Rattle.std.specs.Prelude.{take}
use Rattle.std.proofs.lemmas.Bool.{ltb-true, ltb-false}
use Rattle.rb_base.specs.declared.limits.TheConstants.{MOST_OPEN_BRACKETS}
use Rattle.rb_lex.specs.Tokens.{Lexeme, Ending, AtFault}
use Rattle.rb_grammar.specs.Allowed.{is_too_deep, too_deep, allowed, ending_allowed}
use Rattle.rb_grammar.specs.Brackets.{open_after, open_from}
use Rattle.rb_grammar.specs.Terminals.{terminal_of}

-- after no token are too many brackets open, with so many open before them
abbrev pub FewFrom : ℕ → List Lexeme → Type 0
FewFrom n tokens = (k : ℕ) → open_from n (take k tokens) ≤ MOST_OPEN_BRACKETS

pub few_none : (n : ℕ) → n ≤ MOST_OPEN_BRACKETS → FewFrom n []
few_none n few zero = few
few_none n few (suc k) = few

few_more : (n : ℕ) (token : Lexeme) (tokens : List Lexeme) → n ≤ MOST_OPEN_BRACKETS →
    FewFrom (open_after (terminal_of token) n) tokens → FewFrom n (token ∷ tokens)
few_more n token tokens few later zero = few
few_more n token tokens few later (suc k) = later k

-- nor after the first of them
pub few_before : (n : ℕ) (before after : List Lexeme) → FewFrom n (before ++ after) → FewFrom n before
few_before n [] after few zero = few zero
few_before n [] after few (suc k) = few zero
few_before n (token ∷ before) after few zero = few zero
few_before n (token ∷ before) after few (suc k) =
    few_before (open_after (terminal_of token) n) before after (λ j. few (suc j)) k

-- all tokens are given, or those up to a bracket too many
pub data Given (n : ℕ) (tokens : List Lexeme) (ending : Ending) : Type 0 where
  all_given : FewFrom n tokens → allowed n tokens ≡ tokens → ending_allowed n tokens ending ≡ ending → Given n tokens ending
  last_given : (before after : List Lexeme) (token : Lexeme) → tokens ≡ before ++ token ∷ after →
      allowed n tokens ≡ before ++ token ∷ [] → ending_allowed n tokens ending ≡ AtFault (too_deep token) → FewFrom n before →
      (FewFrom n (before ++ token ∷ []) → ⊥) → Given n tokens ending

too_many : (n : ℕ) (token : Lexeme) → is_too_deep n token ≡ true → FewFrom n (token ∷ []) → ⊥
too_many n token deep few =
    let above : MOST_OPEN_BRACKETS < open_after (terminal_of token) n = ltb-true MOST_OPEN_BRACKETS (open_after (terminal_of token) n) deep in
    let within : open_after (terminal_of token) n ≤ MOST_OPEN_BRACKETS = few (suc zero) in
    omega (arith, above, within)

-- one token more before
given_more : (n : ℕ) (token : Lexeme) (tokens : List Lexeme) (ending : Ending) → n ≤ MOST_OPEN_BRACKETS →
    is_too_deep n token ≡ false → Given (open_after (terminal_of token) n) tokens ending → Given n (token ∷ tokens) ending
given_more n token tokens ending few shallow (all_given later same ends) =
    let m = open_after (terminal_of token) n in
    all_given (few_more n token tokens few later) (ap (λ b. token ∷ cond b [] (allowed m tokens)) shallow ∙ ap (λ ts. token ∷ ts)
    same) (ap (λ b. cond b (AtFault (too_deep token)) (ending_allowed m tokens ending)) shallow ∙ ends)
given_more n token tokens ending few shallow (last_given before after deep is same ends later many) =
    let m = open_after (terminal_of token) n in
    last_given (token ∷ before) after deep (ap (λ ts. token ∷ ts) is)
    (ap (λ b. token ∷ cond b [] (allowed m tokens)) shallow ∙ ap (λ ts. token ∷ ts) same)
    (ap (λ b. cond b (AtFault (too_deep token)) (ending_allowed m tokens ending)) shallow ∙ ends)
    (few_more n token before few later) (λ f. many (λ k. f (suc k)))

given_first : (deep : Bool) (n : ℕ) (token : Lexeme) (tokens : List Lexeme) (ending : Ending) → n ≤ MOST_OPEN_BRACKETS →
    is_too_deep n token ≡ deep → (open_after (terminal_of token) n ≤ MOST_OPEN_BRACKETS →
    Given (open_after (terminal_of token) n) tokens ending) → Given n (token ∷ tokens) ending
given_first true n token tokens ending few e later =
    let m = open_after (terminal_of token) n in
    last_given [] tokens token refl (ap (λ b. token ∷ cond b [] (allowed m tokens)) e)
    (ap (λ b. cond b (AtFault (too_deep token)) (ending_allowed m tokens ending)) e) (few_none n few) (too_many n token e)
given_first false n token tokens ending few e later =
    given_more n token tokens ending few e (later (ltb-false MOST_OPEN_BRACKETS (open_after (terminal_of token) n) e))

pub given : (n : ℕ) (tokens : List Lexeme) (ending : Ending) → n ≤ MOST_OPEN_BRACKETS → Given n tokens ending
given n [] ending few = all_given (few_none n few) refl refl
given n (token ∷ tokens) ending few =
    given_first (is_too_deep n token) n token tokens ending few refl (λ shallow. given (open_after (terminal_of token) n) tokens ending shallow)

-- before a token that is given are few brackets open, and all tokens go on with it
abbrev pub IsGiven : ℕ → List Lexeme → List Lexeme → Lexeme → Type 0
IsGiven n tokens before token = FewFrom n before × (more : List Lexeme) × (tokens ≡ before ++ token ∷ more)

not_nothing : {P : Type 0} (before : List Lexeme) (token : Lexeme) (after : List Lexeme) → [] ≡ before ++ token ∷ after → P
not_nothing [] token after e = absurd cc
not_nothing (first ∷ before) token after e = absurd cc

tail_given : (deep : Bool) (n : ℕ) (first : Lexeme) (tokens before : List Lexeme) (token : Lexeme) (after : List Lexeme) →
    is_too_deep n first ≡ deep → n ≤ MOST_OPEN_BRACKETS → cond deep [] (allowed (open_after (terminal_of first) n) tokens) ≡
    before ++ token ∷ after → (open_after (terminal_of first) n ≤ MOST_OPEN_BRACKETS →
    allowed (open_after (terminal_of first) n) tokens ≡ before ++ token ∷ after →
    IsGiven (open_after (terminal_of first) n) tokens before token) → IsGiven n (first ∷ tokens) (first ∷ before) token
tail_given true n first tokens before token after d few e later = not_nothing before token after e
tail_given false n first tokens before token after d few e later =
    let rest = later (ltb-false MOST_OPEN_BRACKETS (open_after (terminal_of first) n) d) e in
    (few_more n first before few rest.0, rest.1, ap (λ ts. first ∷ ts) rest.2)

pub is_given : (n : ℕ) (tokens before : List Lexeme) (token : Lexeme) (after : List Lexeme) → n ≤ MOST_OPEN_BRACKETS →
    allowed n tokens ≡ before ++ token ∷ after → IsGiven n tokens before token
is_given n [] before token after few e = not_nothing before token after e
is_given n (first ∷ tokens) [] token after few e =
    (few_none n few, tokens, ap (λ t. t ∷ tokens) (let same : first ≡ token = cc in same))
is_given n (first ∷ tokens) (first_before ∷ before) token after few e =
    let m = open_after (terminal_of first) n in
    let same : first ≡ first_before = cc in
    let rest : cond (is_too_deep n first) [] (allowed m tokens) ≡ before ++ token ∷ after = cc in
    subst (λ t. IsGiven n (first ∷ tokens) (t ∷ before) token) same
    (tail_given (is_too_deep n first) n first tokens before token after refl few rest
    (λ shallow given_rest. is_given m tokens before token after shallow given_rest))
