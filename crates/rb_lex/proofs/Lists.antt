-- A text has one token list, which `tokens_of` computes.
use Rattle.std.proofs.Common.{◌≡◌, ℕ, zero, suc, ◌≤◌, false, List, [], ◌∷◌, length, refl, ap, sym, ◌∙◌, arith}
use Rattle.rb_base.specs.declared.edition.Edition.{Edition}
use Rattle.rb_base.specs.declared.place.Place.{Place}
use Rattle.rb_base.specs.declared.fault.SourceFault.{SourceFault}
use Rattle.rb_lex.specs.Bytes.{first_place}
use Rattle.rb_lex.specs.Tokens.{Lexeme, Next, End, Found, Refused, Ending, AtEnd, AtFault, TokensFrom, no_more, one_more, a_fault, next_from, edition_of}
use Rattle.rb_lex.specs.TokenList.{token_and, ending_and, tokens_within, ending_within, tokens_from, ending_from}
use Rattle.rb_lex.specs.Laws.{HasOneTokenList, HasTokenList}
use Rattle.rb_lex.proofs.Landing.{found-progress}

-- the step of `within-made`, by what comes next
made_by : (next : Next) (n : ℕ) (edition : Edition) (p : Place) (bytes : List ℕ) → next_from edition false p bytes ≡ next
    → length bytes ≤ suc n
    → ((at : Place) (left : List ℕ) → length left ≤ n
    → TokensFrom edition at left (tokens_within n edition at left) (ending_within n edition at left))
    → TokensFrom edition p bytes (token_and next (λ at left. tokens_within n edition at left))
    (ending_and next (λ at left. ending_within n edition at left))
made_by (End at) n edition p bytes e h rest = no_more p bytes at e
made_by (Found token at left) n edition p bytes e h rest =
    one_more p bytes token at left (tokens_within n edition at left) (ending_within n edition at left) e
    (rest at left (omega (arith, found-progress edition false p bytes token at left e)))
made_by (Refused fault) n edition p bytes e h rest = a_fault p bytes fault e

-- the computed tokens are those of the bytes
within-made : (n : ℕ) (edition : Edition) (p : Place) (bytes : List ℕ) → length bytes ≤ n
    → TokensFrom edition p bytes (tokens_within n edition p bytes) (ending_within n edition p bytes)
within-made zero edition p [] h = no_more p [] p refl
within-made zero edition p (b ∷ bs) h = absurd (omega arith)
within-made (suc n) edition p bytes h =
    made_by (next_from edition false p bytes) n edition p bytes refl h (λ at left. within-made n edition at left)

-- the bytes from any place on are these tokens
pub tokens_from-made : (edition : Edition) (p : Place) (bytes : List ℕ)
    → TokensFrom edition p bytes (tokens_from edition p bytes) (ending_from edition p bytes)
tokens_from-made edition p bytes = within-made (length bytes) edition p bytes (omega arith)

-- tokens and an ending, computed
pub record AreWithin (n : ℕ) (edition : Edition) (p : Place) (bytes : List ℕ) (tokens : List Lexeme) (ending : Ending) : Type 0 where
  pub tokens_are : tokens ≡ tokens_within n edition p bytes
  pub ending_is : ending ≡ ending_within n edition p bytes

-- the cases of `are_within`
end_within : (n : ℕ) (edition : Edition) (p : Place) (bytes : List ℕ) (at : Place)
    → next_from edition false p bytes ≡ End at → length bytes ≤ n → AreWithin n edition p bytes [] (AtEnd at)
end_within zero edition p [] at e h = record { tokens_are = refl; ending_is = cc }
end_within zero edition p (b ∷ bs) at e h = absurd (omega arith)
end_within (suc n) edition p bytes at e h =
    record {
      tokens_are = sym (ap (λ next. token_and next (λ q left. tokens_within n edition q left)) e);
      ending_is = sym (ap (λ next. ending_and next (λ q left. ending_within n edition q left)) e);
    }

fault_within : (n : ℕ) (edition : Edition) (p : Place) (bytes : List ℕ) (fault : SourceFault)
    → next_from edition false p bytes ≡ Refused fault → length bytes ≤ n → AreWithin n edition p bytes [] (AtFault fault)
fault_within zero edition p [] fault e h = absurd cc
fault_within zero edition p (b ∷ bs) fault e h = absurd (omega arith)
fault_within (suc n) edition p bytes fault e h =
    record {
      tokens_are = sym (ap (λ next. token_and next (λ q left. tokens_within n edition q left)) e);
      ending_is = sym (ap (λ next. ending_and next (λ q left. ending_within n edition q left)) e);
    }

-- tokens of the bytes are the computed ones
are_within : (edition : Edition) (p : Place) (bytes : List ℕ) (tokens : List Lexeme) (ending : Ending)
    → TokensFrom edition p bytes tokens ending → (n : ℕ) → length bytes ≤ n → AreWithin n edition p bytes tokens ending
are_within edition _ _ _ _ (no_more p bytes at e) n h = end_within n edition p bytes at e h
are_within edition _ _ _ _ (a_fault p bytes fault e) n h = fault_within n edition p bytes fault e h
are_within edition _ _ _ _ (one_more p bytes token at left tokens ending e rest) zero h =
    absurd (omega (arith, found-progress edition false p bytes token at left e))
are_within edition _ _ _ _ (one_more p bytes token at left tokens ending e rest) (suc n) h =
    let later = are_within edition at left tokens ending rest n (omega (arith, found-progress edition false p bytes token at left e)) in
    record {
      tokens_are = ap (λ ts. token ∷ ts) later.tokens_are ∙ sym (ap (λ next. token_and next (λ q left. tokens_within n edition q left)) e);
      ending_is = later.ending_is ∙ sym (ap (λ next. ending_and next (λ q left. ending_within n edition q left)) e);
    }

-- tokens from a place on are the computed ones
pub tokens_from-only : (edition : Edition) (p : Place) (bytes : List ℕ) (tokens : List Lexeme) (ending : Ending)
    → TokensFrom edition p bytes tokens ending
    → (tokens ≡ tokens_from edition p bytes) × (ending ≡ ending_from edition p bytes)
tokens_from-only edition p bytes tokens ending t =
    let a = are_within edition p bytes tokens ending t (length bytes) (omega arith) in (a.tokens_are, a.ending_is)

-- from a place at which a token comes next
pub tokens_from-found : (edition : Edition) (p : Place) (bytes : List ℕ) (token : Lexeme) (at : Place) (left : List ℕ)
    → next_from edition false p bytes ≡ Found token at left
    → (tokens_from edition p bytes ≡ token ∷ tokens_from edition at left) × (ending_from edition p bytes ≡ ending_from edition at left)
tokens_from-found edition p bytes token at left e =
    let a = tokens_from-only edition p bytes _ _
    (one_more p bytes token at left (tokens_from edition at left) (ending_from edition at left) e (tokens_from-made edition at left)) in
    (sym a.0, sym a.1)

-- from a place at which only the end comes
pub tokens_from-end : (edition : Edition) (p : Place) (bytes : List ℕ) (at : Place)
    → next_from edition false p bytes ≡ End at
    → (tokens_from edition p bytes ≡ []) × (ending_from edition p bytes ≡ AtEnd at)
tokens_from-end edition p bytes at e =
    let a = tokens_from-only edition p bytes _ _ (no_more p bytes at e) in (sym a.0, sym a.1)

-- from a place at which a fault comes next
pub tokens_from-refused : (edition : Edition) (p : Place) (bytes : List ℕ) (fault : SourceFault)
    → next_from edition false p bytes ≡ Refused fault
    → (tokens_from edition p bytes ≡ []) × (ending_from edition p bytes ≡ AtFault fault)
tokens_from-refused edition p bytes fault e =
    let a = tokens_from-only edition p bytes _ _ (a_fault p bytes fault e) in (sym a.0, sym a.1)

-- the laws
pub one_list : HasOneTokenList
one_list bytes ts us e f t u =
    let a = tokens_from-only (edition_of bytes) first_place bytes ts e t in
    let b = tokens_from-only (edition_of bytes) first_place bytes us f u in
    (a.0 ∙ sym b.0, a.1 ∙ sym b.1)

pub has_list : HasTokenList
has_list bytes = tokens_from-made (edition_of bytes) first_place bytes
