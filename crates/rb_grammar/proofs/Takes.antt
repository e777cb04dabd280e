-- A name or a number that was taken is a token.
use Rattle.std.proofs.Common.{◌≡◌, ℕ, ℤ, pos, Bool, true, false, cond, List, Some, refl, sym, ap, ◌∙◌}
use Rattle.std.specs.Ordering.{int_eq}
use Rattle.std.proofs.lemmas.Bool.Decides.{Decides-int_eq}
use Rattle.rb_lex.specs.declared.token.Kind.TheVariants as kinds
use Rattle.rb_lex.specs.Tokens.{Lexeme}
use Rattle.rb_grammar.proofs.Spelled.{two_kind}
use Rattle.rb_grammar.specs.declared.terminal.Terminal.TheVariants as terminals
use Rattle.rb_grammar.specs.Grammar.{Point, TakesName, TakesNumber}
use Rattle.rb_grammar.specs.Machine.{Advances}
use Rattle.rb_grammar.specs.ExpressionTable.{number_of, value_of}
use Rattle.rb_grammar.specs.Terminals.{terminal_of, terminal_of_kind, number_terminal}
use Rattle.rb_syntax.specs.declared.expression.Number.{Number}
use Rattle.rb_syntax.specs.Tree.{Identifier}

pub name_taken : {name : Identifier} {a b : Point} (t : TakesName name a b) → Advances terminals.Name t.token a b
name_taken t = record { stands = t.stands; is = t.fits; names = t.names; blocks = t.blocks }

-- the token of a number is two or another
pub counts : {number : Number} {a b : Point} (t : TakesNumber number a b) → terminal_of t.token ≡ Some (number_terminal t.value)
counts t = ap (λ kind. terminal_of_kind kind t.token.text) t.fits

pub number_taken : {number : Number} {a b : Point} (t : TakesNumber number a b) → terminal_of t.token ≡ Some terminals.Number →
    Advances terminals.Number t.token a b
number_taken t e = record { stands = t.stands; is = e; names = t.names; blocks = t.blocks }

pub two_taken : {number : Number} {a b : Point} (t : TakesNumber number a b) → terminal_of t.token ≡ Some terminals.Two →
    Advances terminals.Two t.token a b
two_taken t e = record { stands = t.stands; is = e; names = t.names; blocks = t.blocks }

pub number_is : {number : Number} {a b : Point} (t : TakesNumber number a b) → number ≡ number_of t.token
number_is t =
    t.is ∙ ap (λ kind. let n : Number = record { value = value_of kind; place = t.token.place } in n) (sym t.fits)

int_two : (value : ℤ) (test : Bool) → int_eq value (pos 2) ≡ test → cond test terminals.Two terminals.Number ≡ terminals.Two → value ≡ pos 2
int_two value true e h = (Decides-int_eq value (pos 2)).0 e
int_two value false e h = absurd cc

two_value : (value : ℤ) (text : List ℕ) → terminal_of_kind (kinds.Number value) text ≡ Some terminals.Two → value ≡ pos 2
two_value value text e =
    let same : number_terminal value ≡ terminals.Two = cc in int_two value (int_eq value (pos 2)) refl same

-- a token that is two has this value
pub two_is : (token : Lexeme) → terminal_of token ≡ Some terminals.Two → number_of token ≡ record { value = pos 2; place = token.place }
two_is token e =
    let number = two_kind token.kind token.text e in
    let here : terminal_of_kind (kinds.Number number.0) token.text ≡ Some terminals.Two = ap
    (λ kind. terminal_of_kind kind token.text) (sym number.1) ∙ e in
    ap (λ kind. let n : Number = record { value = value_of kind; place = token.place } in n) number.1 ∙ ap
    (λ value. let n : Number = record { value = value; place = token.place } in n) (two_value number.0 token.text here)
