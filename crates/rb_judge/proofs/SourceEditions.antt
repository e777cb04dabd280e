-- The edition of a source and that of its tree: where the tree is derived behind the word `edition`, the source is of the second edition;
-- and the tokens of either edition are spelled as those of the first, whose reserved words both have.
use Rattle.std.proofs.Common.{◌≡◌, ℕ, nat_eq, Bool, true, false, not, ◌||◌, cond, List, [], ◌∷◌, Some, codes, refl, ap, ap₂, sym, subst, ◌∙◌}
use Rattle.std.specs.Cmp.Lexicographic.{pointwise, same_text}
use Rattle.std.specs.List.{AllByRecursion, list_all}
use Rattle.std.proofs.lemmas.Bool.{and_parts, or_parts}
use Rattle.rb_base.specs.Reserved.{common_words, is_one_of, is_reserved, own_words}
use Rattle.rb_base.specs.declared.edition.Edition.{Edition}
use Rattle.rb_base.specs.declared.edition.Edition.TheVariants as editions
use Rattle.rb_base.specs.declared.place.Place.{Place}
use Rattle.rb_lex.specs.Bytes.{first_place}
use Rattle.rb_lex.specs.Tokens.{Ending, Lexeme, Tokens, TokensFrom, one_more, begins_with, edition_of, next_from}
use Rattle.rb_lex.specs.declared.token.Kind.{Kind}
use Rattle.rb_lex.specs.declared.token.Kind.TheVariants as kinds
use Rattle.rb_grammar.specs.declared.terminal.Terminal.{Terminal}
use Rattle.rb_grammar.specs.declared.terminal.Terminal.TheVariants as terminals
use Rattle.rb_grammar.specs.Grammar.{Point, Takes, start_of}
use Rattle.rb_grammar.specs.Machine.{is_same}
use Rattle.rb_grammar.specs.Terminals.{Spelling, marks, spelled, terminal_of_kind, words}
use Rattle.rb_scope.specs.Spelled.{IsNaming}
use Rattle.rb_judge.proofs.TokensSpelled.{KindSpelled, TokenSpelled}

-- what all spellings have with their bytes, what is found has with its own
found : (p : List ℕ → Terminal → Bool) (text : List ℕ) (spellings : List Spelling) (terminal : Terminal)
    → list_all (λ s. p s.0 s.1) spellings ≡ true → spelled text spellings ≡ Some terminal → p text terminal ≡ true
found p text [] terminal h e = absurd cc
found p text ((bytes, here) ∷ others) terminal h e =
    let both = and_parts (p bytes here) (list_all (λ s. p s.0 s.1) others) h in
    by (pointwise nat_eq bytes text) refl both.0 (found p text others terminal both.1) e
  where
    by : (same : Bool) → pointwise nat_eq bytes text ≡ same → p bytes here ≡ true
        → (spelled text others ≡ Some terminal → p text terminal ≡ true) → cond same (Some here) (spelled text others) ≡ Some terminal
        → p text terminal ≡ true
    by true same has later e =
        let alike : terminal ≡ here = cc in
        ap₂ p (sym (same_text bytes text (sym same))) alike ∙ has
    by false same has later e = later e

-- only the word `edition` stands for itself
abbrev is_edition : List ℕ → Terminal → Bool
is_edition text terminal = not (is_same terminal terminals.Edition) || pointwise nat_eq text (codes "edition")

no_number : (two : Bool) → Some (cond two terminals.Two terminals.Number) ≡ Some terminals.Edition → ⊥
no_number true e = cc
no_number false e = cc

edition_of_kind : (kind : Kind) (text : List ℕ) → terminal_of_kind kind text ≡ Some terminals.Edition
    → pointwise nat_eq text (codes "edition") ≡ true
edition_of_kind kinds.Name text e = absurd cc
edition_of_kind (kinds.Number value) text e = absurd (no_number _ e)
edition_of_kind kinds.Text text e = absurd cc
edition_of_kind kinds.Word text e = found is_edition text words terminals.Edition refl e
edition_of_kind kinds.Mark text e = found is_edition text marks terminals.Edition refl e

-- the first token is what comes first
begins : (word : List ℕ) {edition : Edition} {p : Place} {bytes : List ℕ} {token : Lexeme} {tokens : List Lexeme} {ending : Ending}
    → TokensFrom edition p bytes (token ∷ tokens) ending → pointwise nat_eq token.text word ≡ true
    → begins_with (next_from edition false p bytes) word ≡ true
begins word (one_more p bytes token at left tokens ending e rest) h = ap (λ next. begins_with next word) e ∙ h

pub of_second_edition : {source : List ℕ} {tokens : List Lexeme} {ending : Ending} {b : Point} → Tokens source tokens ending
    → Takes terminals.Edition (start_of tokens) b → edition_of source ≡ editions.Second
of_second_edition {source = source} {tokens = tokens} {ending = ending} {b = b} cut t =
    by (edition_of source) refl (subst (λ all. Tokens source all ending) t.stands cut)
  where
    by : (edition : Edition) → edition_of source ≡ edition → Tokens source (t.token ∷ b.left) ending
        → edition_of source ≡ editions.Second
    by editions.First e first =
        let in_first = subst (λ edition. TokensFrom edition first_place source (t.token ∷ b.left) ending) e first in
        ap (λ r. cond r editions.Second editions.First) (begins (codes "edition") in_first (edition_of_kind t.token.kind t.token.text t.fits))
    by editions.Second e first = e

-- what an edition does not reserve the first does not
not_in_first : (edition : Edition) (text : List ℕ) → is_reserved edition text ≡ false → is_reserved editions.First text ≡ false
not_in_first edition text e =
    ap (λ r. r || false) (or_parts (is_one_of common_words text) (is_one_of (own_words edition) text) e).0

naming_in_first : (edition : Edition) (text : List ℕ) → IsNaming edition text → IsNaming editions.First text
naming_in_first edition text h = (h.0, h.1, not_in_first edition text h.2)

kind_in_first : (edition : Edition) (kind : Kind) (text : List ℕ) → KindSpelled edition kind text → KindSpelled editions.First kind text
kind_in_first edition kinds.Name text h = naming_in_first edition text h
kind_in_first edition (kinds.Number value) text h = tt
kind_in_first edition kinds.Text text h = h
kind_in_first edition kinds.Word text h = tt
kind_in_first edition kinds.Mark text h = tt

pub in_first : (edition : Edition) (tokens : List Lexeme) → AllByRecursion (TokenSpelled edition) tokens
    → AllByRecursion (TokenSpelled editions.First) tokens
in_first edition [] all = tt
in_first edition (token ∷ tokens) all = (kind_in_first edition token.kind token.text all.0, in_first edition tokens all.1)
