-- Steps over tokens that are neither names nor `ensure`, and what points tell: a list that each step either keeps or
-- begins with one thing more.
use Rattle.std.proofs.Common.{◌≡◌, ℕ, pos, Bool, true, false, cond, List, ◌∷◌, Some, refl, sym, ap, ◌∙◌}
use Rattle.std.specs.Ordering.{int_eq}
use Rattle.rb_base.specs.declared.place.Place.{Place}
use Rattle.rb_lex.specs.Tokens.{Lexeme}
use Rattle.rb_grammar.specs.declared.level.Level.{Level}
use Rattle.rb_grammar.specs.declared.terminal.Terminal.{Terminal}
use Rattle.rb_grammar.specs.declared.terminal.Terminal.TheVariants as terminals
use Rattle.rb_grammar.specs.Grammar.{Point, Takes, TakesEnsure, TakesNumber, TakesText, TakesOperator, TakesComparison, TakesQuantifier}
use Rattle.rb_grammar.specs.Machine.{names_after, blocks_after, Advances}
use Rattle.rb_grammar.specs.Operators.{operator, comparison, quantifier}
use Rattle.rb_grammar.specs.Terminals.{terminal_of, number_terminal}
use Rattle.rb_grammar.proofs.Takes.{counts}
use Rattle.rb_syntax.specs.declared.expression.Number.{Number}
use Rattle.rb_syntax.specs.declared.expression.Op.{Op}
use Rattle.rb_syntax.specs.declared.expression.Quantifier.{Quantifier}
use Rattle.rb_syntax.specs.Tree.{PrintItem}

-- whether tokens of a terminal have numbers
abbrev pub is_numbered : Terminal → Bool
is_numbered terminals.Name = true
is_numbered terminals.Ensure = true
is_numbered _ = false

-- a token without a number stands between two points
pub record Passes (a b : Point) : Type 0 where
  pub terminal : Terminal
  pub token : Lexeme
  pub stands : a.left ≡ token ∷ b.left
  pub fits : terminal_of token ≡ Some terminal
  pub names : b.names ≡ a.names
  pub blocks : b.blocks ≡ a.blocks
  pub plain : is_numbered terminal ≡ false

same_names : (terminal : Terminal) (n : ℕ) → is_numbered terminal ≡ false → names_after (Some terminal) n ≡ n
same_names terminals.Name n e = absurd cc
same_names _ n e = refl

same_blocks : (terminal : Terminal) (n : ℕ) → is_numbered terminal ≡ false → blocks_after (Some terminal) n ≡ n
same_blocks terminals.Ensure n e = absurd cc
same_blocks _ n e = refl

-- such a token advances no number
pub advances : {a b : Point} (t : Passes a b) → Advances t.terminal t.token a b
advances {a = a} t = record {
  stands = t.stands;
  is = t.fits;
  names = t.names ∙ sym (same_names t.terminal a.names t.plain);
  blocks = t.blocks ∙ sym (same_blocks t.terminal a.blocks t.plain);
}

-- the word `ensure` advances the number of recovery blocks
pub ensure_taken : {number : ℕ} {place : Place} {a b : Point} (t : TakesEnsure number place a b) → Advances terminals.Ensure t.token a b
ensure_taken t = record { stands = t.stands; is = t.fits; names = t.names; blocks = t.blocks }

pub passes : {terminal : Terminal} {a b : Point} → Takes terminal a b → is_numbered terminal ≡ false → Passes a b
passes {terminal = terminal} t e = record {
  terminal = terminal;
  token = t.token;
  stands = t.stands;
  fits = t.fits;
  names = t.names;
  blocks = t.blocks;
  plain = e;
}

two_or_another : (test : Bool) → is_numbered (cond test terminals.Two terminals.Number) ≡ false
two_or_another true = refl
two_or_another false = refl

pub passes_number : {number : Number} {a b : Point} → TakesNumber number a b → Passes a b
passes_number t = record {
  terminal = number_terminal t.value;
  token = t.token;
  stands = t.stands;
  fits = counts t;
  names = t.names;
  blocks = t.blocks;
  plain = two_or_another (int_eq t.value (pos 2));
}

pub passes_text : {item : PrintItem} {a b : Point} → TakesText item a b → Passes a b
passes_text t = record {
  terminal = terminals.Text;
  token = t.token;
  stands = t.stands;
  fits = t.fits;
  names = t.names;
  blocks = t.blocks;
  plain = refl;
}

operator_plain : (terminal : Terminal) (level : Level) (op : Op) → operator (Some terminal) level ≡ Some op → is_numbered terminal ≡ false
operator_plain terminals.Name level op e = absurd cc
operator_plain terminals.Ensure level op e = absurd cc
operator_plain _ level op e = refl

comparison_plain : (terminal : Terminal) (op : Op) → comparison (Some terminal) ≡ Some op → is_numbered terminal ≡ false
comparison_plain terminals.Name op e = absurd cc
comparison_plain terminals.Ensure op e = absurd cc
comparison_plain _ op e = refl

quantifier_plain : (terminal : Terminal) (kind : Quantifier) → quantifier (Some terminal) ≡ Some kind → is_numbered terminal ≡ false
quantifier_plain terminals.Name kind e = absurd cc
quantifier_plain terminals.Ensure kind e = absurd cc
quantifier_plain _ kind e = refl

pub passes_operator : {level : Level} {op : Op} {a b : Point} → TakesOperator level op a b → Passes a b
passes_operator {level = level} {op = op} t = passes t.takes (operator_plain t.terminal level op t.is)

pub passes_comparison : {op : Op} {a b : Point} → TakesComparison op a b → Passes a b
passes_comparison {op = op} t = passes t.takes (comparison_plain t.terminal op t.is)

pub passes_quantifier : {kind : Quantifier} {place : Place} {a b : Point} → TakesQuantifier kind place a b → Passes a b
passes_quantifier {kind = kind} t = passes t.takes.takes (quantifier_plain t.terminal kind t.is)

-- What a point tells, where `at` gives it: from one point to another it is what f puts before what the other tells.
pub record Tells {A : Type 0} (at : Point → List A) (f : List A → List A) (a b : Point) : Type 0 where
  pub is : at a ≡ f (at b)

-- one step after the other
pub then : {A : Type 0} {at : Point → List A} {f g : List A → List A} {a b c : Point} → Tells at f a b → Tells at g b c →
    Tells at (λ rest. f (g rest)) a c
then {f = f} s t = record { is = s.is ∙ ap f t.is }

-- no step
pub nothing : {A : Type 0} {at : Point → List A} {a : Point} → Tells at (λ rest. rest) a a
nothing = record { is = refl }

-- the same, put otherwise
pub put : {A : Type 0} {at : Point → List A} {f g : List A → List A} {a b : Point} → ((rest : List A) → f rest ≡ g rest) →
    Tells at f a b → Tells at g a b
put {at = at} {b = b} e t = record { is = t.is ∙ e (at b) }
