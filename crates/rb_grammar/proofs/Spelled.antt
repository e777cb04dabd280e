-- No word and no mark is a number: a token that stands for one is one.
use Rattle.std.proofs.Common.{◌≡◌, ℕ, ℤ, nat_eq, cond, Bool, true, false, not, ◌&&◌, List, [], ◌∷◌, Option, Some, refl, ap, ◌∙◌}
use Rattle.std.proofs.lemmas.Bool.{false≢true}
use Rattle.std.specs.List.{list_all}
use Rattle.std.specs.Cmp.Lexicographic.{pointwise}
use Rattle.rb_lex.specs.declared.token.Kind.{Kind}
use Rattle.rb_lex.specs.declared.token.Kind.TheVariants as kinds
use Rattle.rb_grammar.specs.declared.terminal.Terminal.{Terminal}
use Rattle.rb_grammar.specs.declared.terminal.Terminal.TheVariants as terminals
use Rattle.rb_grammar.specs.Machine.{is_same}
use Rattle.rb_grammar.specs.Terminals.{Spelling, spelled, words, marks, terminal_of_kind}

and-true : (a b : Bool) → (a && b) ≡ true → (a ≡ true) × (b ≡ true)
and-true true b e = (refl, e)
and-true false b e = absurd cc

-- what all spellings have, what is found has
pub picked : (test : Bool) (here terminal : Terminal) (p : Terminal → Bool) (later : Option Terminal) → p here ≡ true →
    (later ≡ Some terminal → p terminal ≡ true) → cond test (Some here) later ≡ Some terminal → p terminal ≡ true
picked true here terminal p later h rest e = ap p (let same : terminal ≡ here = cc in same) ∙ h
picked false here terminal p later h rest e = rest e

pub spelled_all : (p : Terminal → Bool) (text : List ℕ) (spellings : List Spelling) (terminal : Terminal) →
    list_all (λ s. p s.1) spellings ≡ true → spelled text spellings ≡ Some terminal → p terminal ≡ true
spelled_all p text [] terminal h e = absurd cc
spelled_all p text ((bytes, here) ∷ others) terminal h e =
    let both = and-true (p here) (list_all (λ s. p s.1) others) h in
    picked (pointwise nat_eq bytes text) here terminal p (spelled text others) both.0 (λ later. spelled_all p text others terminal both.1 later) e

abbrev is_no_number : Terminal → Bool
is_no_number terminal = not (is_same terminal terminals.Number) && not (is_same terminal terminals.Two)

pub number_kind : (kind : Kind) (text : List ℕ) → terminal_of_kind kind text ≡ Some terminals.Number → (value : ℤ) × (kind ≡ kinds.Number value)
number_kind kinds.Name text e = absurd cc
number_kind (kinds.Number value) text e = (value, refl)
number_kind kinds.Text text e = absurd cc
number_kind kinds.Word text e = absurd (false≢true (spelled_all is_no_number text words terminals.Number refl e))
number_kind kinds.Mark text e = absurd (false≢true (spelled_all is_no_number text marks terminals.Number refl e))

pub two_kind : (kind : Kind) (text : List ℕ) → terminal_of_kind kind text ≡ Some terminals.Two → (value : ℤ) × (kind ≡ kinds.Number value)
two_kind kinds.Name text e = absurd cc
two_kind (kinds.Number value) text e = (value, refl)
two_kind kinds.Text text e = absurd cc
two_kind kinds.Word text e = absurd (false≢true (spelled_all is_no_number text words terminals.Two refl e))
two_kind kinds.Mark text e = absurd (false≢true (spelled_all is_no_number text marks terminals.Two refl e))
