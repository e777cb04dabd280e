-- What stands between two points of a text: tokens, each of which counts names and recoveries on.
use Rattle.std.specs.Prelude.{◌≡◌, ℕ, ℤ, ◌+◌, ◌-◌, List, ◌∷◌, length, take, drop, Some}
use Rattle.rb_base.specs.declared.place.Place.{Place}
use Rattle.rb_lex.specs.declared.token.Kind.TheVariants as kinds
use Rattle.rb_lex.specs.Tokens.{Lexeme}
use Rattle.rb_grammar.specs.declared.level.Level.{Level}
use Rattle.rb_grammar.specs.declared.terminal.Terminal.{Terminal}
use Rattle.rb_grammar.specs.declared.terminal.Terminal.TheVariants as terminals
use Rattle.rb_grammar.specs.Operators.{operator, comparison, quantifier}
use Rattle.rb_grammar.specs.Terminals.{terminal_of}
use Rattle.rb_syntax.specs.declared.expression.Number.{Number}
use Rattle.rb_syntax.specs.declared.expression.Op.{Op}
use Rattle.rb_syntax.specs.declared.expression.Quantifier.{Quantifier}
use Rattle.rb_syntax.specs.Tree.{Identifier, Words, PrintItem}

-- A point between two tokens: the tokens left, and how many names and recoveries came before.
pub record Point : Type 0 where
  pub left : List Lexeme
  pub names : ℕ
  pub blocks : ℕ

-- a token of this terminal stands between two points
pub record Takes (terminal : Terminal) (a b : Point) : Type 0 where
  pub token : Lexeme
  pub stands : a.left ≡ token ∷ b.left
  pub fits : terminal_of token ≡ Some terminal
  pub names : b.names ≡ a.names
  pub blocks : b.blocks ≡ a.blocks

-- the same, at this place
pub record TakesAt (terminal : Terminal) (place : Place) (a b : Point) : Type 0 where
  pub takes : Takes terminal a b
  pub is : place ≡ takes.token.place

-- a name stands between two points; its number is how many came before
pub record TakesName (name : Identifier) (a b : Point) : Type 0 where
  pub token : Lexeme
  pub stands : a.left ≡ token ∷ b.left
  pub fits : terminal_of token ≡ Some terminals.Name
  pub is : name ≡ record { text = token.text; place = token.place; id = a.names }
  pub names : b.names ≡ a.names + 1
  pub blocks : b.blocks ≡ a.blocks

-- a number stands between two points
pub record TakesNumber (number : Number) (a b : Point) : Type 0 where
  pub token : Lexeme
  pub value : ℤ
  pub stands : a.left ≡ token ∷ b.left
  pub fits : token.kind ≡ kinds.Number value
  pub is : number ≡ record { value = value; place = token.place }
  pub names : b.names ≡ a.names
  pub blocks : b.blocks ≡ a.blocks

-- the bytes of a text between its quotes
abbrev pub between_quotes : List ℕ → List ℕ
between_quotes text = take (length text - 2) (drop 1 text)

-- a text stands between two points
pub record TakesText (item : PrintItem) (a b : Point) : Type 0 where
  pub token : Lexeme
  pub stands : a.left ≡ token ∷ b.left
  pub fits : terminal_of token ≡ Some terminals.Text
  pub is : item ≡ record { place = token.place; what = Words (between_quotes token.text) }
  pub names : b.names ≡ a.names
  pub blocks : b.blocks ≡ a.blocks

-- the word `ensure` stands between two points; the number of its recovery is how many came before
pub record TakesEnsure (number : ℕ) (place : Place) (a b : Point) : Type 0 where
  pub token : Lexeme
  pub stands : a.left ≡ token ∷ b.left
  pub fits : terminal_of token ≡ Some terminals.Ensure
  pub is : number ≡ a.blocks
  pub at : place ≡ token.place
  pub names : b.names ≡ a.names
  pub blocks : b.blocks ≡ a.blocks + 1

-- the operator of a level stands between two points
pub record TakesOperator (level : Level) (op : Op) (a b : Point) : Type 0 where
  pub terminal : Terminal
  pub is : operator (Some terminal) level ≡ Some op
  pub takes : Takes terminal a b

-- a comparison stands between two points
pub record TakesComparison (op : Op) (a b : Point) : Type 0 where
  pub terminal : Terminal
  pub is : comparison (Some terminal) ≡ Some op
  pub takes : Takes terminal a b

-- the word of a quantified expression stands between two points
pub record TakesQuantifier (kind : Quantifier) (place : Place) (a b : Point) : Type 0 where
  pub terminal : Terminal
  pub is : quantifier (Some terminal) ≡ Some kind
  pub takes : TakesAt terminal place a b

-- the place of the first token left
pub record StandsAt (place : Place) (a : Point) : Type 0 where
  pub token : Lexeme
  pub others : List Lexeme
  pub stands : a.left ≡ token ∷ others
  pub is : place ≡ token.place
