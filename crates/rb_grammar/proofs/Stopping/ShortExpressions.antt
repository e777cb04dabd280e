-- One number derives each part of an expression; and tokens that stand for all of their kind.
use Rattle.std.proofs.Common.{◌≡◌, ℕ, ◌+◌, List, ◌∷◌, Some, refl}
use Rattle.rb_lex.specs.Tokens.{Lexeme}
use Rattle.rb_grammar.specs.declared.level.Level.TheVariants as levels
use Rattle.rb_grammar.specs.declared.terminal.Terminal.{Terminal}
use Rattle.rb_grammar.specs.declared.terminal.Terminal.TheVariants as terminals
use Rattle.rb_grammar.specs.ExpressionTable.{name_of, number_of}
use Rattle.rb_grammar.specs.Grammar.{Point, Takes, TakesName, Derives, amount_row, expression_row, chain_row, no_link_row}
use Rattle.rb_grammar.specs.Grammar.{disjunct_row, conjunct_row, term_row, factor_row, no_not_row, comparison_row}
use Rattle.rb_grammar.specs.Grammar.{not_compared_row, no_minus_row, literal_row, number_row}
use Rattle.rb_grammar.specs.Machine.{Advances, names_after, blocks_after}
use Rattle.rb_grammar.specs.Parts.{Part}
use Rattle.rb_grammar.specs.Plans.{Seen}
use Rattle.rb_grammar.specs.StatementTable.{amount_at}
use Rattle.rb_grammar.proofs.Stopping.Samples.{sample, sample_is}
use Rattle.rb_grammar.proofs.Accepting.Sound.{named}
use Rattle.rb_syntax.specs.declared.expression.Number.{Number}
use Rattle.rb_syntax.specs.Tree.{Identifier, Expression, Literal, NoLink}

-- a point from which these tokens are left
abbrev pub from : List Lexeme → ℕ → ℕ → Point
from left names blocks = record { left = left; names = names; blocks = blocks }

-- the seen token of a terminal
abbrev pub sampled : Terminal → ℕ → ℕ → Seen
sampled terminal names blocks = record { token = sample terminal; names = names; blocks = blocks }

pub sample_advances : (terminal : Terminal) (rest : List Lexeme) (names blocks : ℕ) →
    Advances terminal (sample terminal) (from (sample terminal ∷ rest) names blocks)
    (from rest (names_after (Some terminal) names) (blocks_after (Some terminal) blocks))
sample_advances terminal rest names blocks = record { stands = refl; is = sample_is terminal; names = refl; blocks = refl }

-- the number that stands for every expression, and the value of it
abbrev pub number : Number
number = number_of (sample terminals.Number)

abbrev pub zero_value : Expression
zero_value = Literal number

-- the name that stands at a point
abbrev pub name_at : ℕ → ℕ → Identifier
name_at names blocks = name_of (sampled terminals.Name names blocks)

module _ (names blocks : ℕ) where
  pub number_here : (rest : List Lexeme) → Derives Part.Number number (from (sample terminals.Number ∷ rest) names blocks) (from rest names blocks)
  number_here rest = number_row (record {
    token = sample terminals.Number;
    value = _;
    stands = refl;
    fits = refl;
    is = refl;
    names = refl;
    blocks = refl;
  })

  pub atom_here : (rest : List Lexeme) → Derives Part.Atom zero_value (from (sample terminals.Number ∷ rest) names blocks) (from rest names blocks)
  atom_here rest = literal_row (number_here rest)

  pub factor_here : (rest : List Lexeme) → Derives Part.Factor zero_value (from (sample terminals.Number ∷ rest) names blocks)
      (from rest names blocks)
  factor_here rest = no_minus_row (atom_here rest)

  pub product_operand_here : (rest : List Lexeme) → Derives (Part.Operand levels.Product) zero_value
      (from (sample terminals.Number ∷ rest) names blocks) (from rest names blocks)
  product_operand_here rest = factor_row (factor_here rest)

  pub product_here : (rest : List Lexeme) → Derives (Part.Chain levels.Product) zero_value
      (from (sample terminals.Number ∷ rest) names blocks) (from rest names blocks)
  product_here rest = chain_row {links = NoLink} (product_operand_here rest) no_link_row

  pub sum_operand_here : (rest : List Lexeme) → Derives (Part.Operand levels.Sum) zero_value
      (from (sample terminals.Number ∷ rest) names blocks) (from rest names blocks)
  sum_operand_here rest = term_row (product_here rest)

  pub sum_here : (rest : List Lexeme) → Derives (Part.Chain levels.Sum) zero_value
      (from (sample terminals.Number ∷ rest) names blocks) (from rest names blocks)
  sum_here rest = chain_row {links = NoLink} (sum_operand_here rest) no_link_row

  pub comparison_here : (rest : List Lexeme) → Derives Part.Comparison zero_value
      (from (sample terminals.Number ∷ rest) names blocks) (from rest names blocks)
  comparison_here rest = comparison_row {links = NoLink} (sum_here rest) not_compared_row

  pub negation_here : (rest : List Lexeme) → Derives Part.Negation zero_value (from (sample terminals.Number ∷ rest) names blocks)
      (from rest names blocks)
  negation_here rest = no_not_row (comparison_here rest)

  pub conjunction_operand_here : (rest : List Lexeme) → Derives (Part.Operand levels.Conjunction) zero_value
      (from (sample terminals.Number ∷ rest) names blocks) (from rest names blocks)
  conjunction_operand_here rest = conjunct_row (negation_here rest)

  pub conjunction_here : (rest : List Lexeme) → Derives (Part.Chain levels.Conjunction) zero_value
      (from (sample terminals.Number ∷ rest) names blocks) (from rest names blocks)
  conjunction_here rest = chain_row {links = NoLink} (conjunction_operand_here rest) no_link_row

  pub disjunction_operand_here : (rest : List Lexeme) → Derives (Part.Operand levels.Disjunction) zero_value
      (from (sample terminals.Number ∷ rest) names blocks) (from rest names blocks)
  disjunction_operand_here rest = disjunct_row (conjunction_here rest)

  pub disjunction_here : (rest : List Lexeme) → Derives (Part.Chain levels.Disjunction) zero_value
      (from (sample terminals.Number ∷ rest) names blocks) (from rest names blocks)
  disjunction_here rest = chain_row {links = NoLink} (disjunction_operand_here rest) no_link_row

  pub expression_here : (rest : List Lexeme) → Derives Part.Expression zero_value
      (from (sample terminals.Number ∷ rest) names blocks) (from rest names blocks)
  expression_here rest = expression_row (disjunction_here rest)

  pub item_here : (rest : List Lexeme) → Derives Part.Item (amount_at (sample terminals.Number).place zero_value)
      (from (sample terminals.Number ∷ rest) names blocks) (from rest names blocks)
  item_here rest =
      amount_row (record { token = sample terminals.Number; others = rest; stands = refl; is = refl }) (expression_here rest)

  -- a token that is neither a name nor `ensure`
  pub takes : (terminal : Terminal) (rest : List Lexeme) → names_after (Some terminal) names ≡ names →
      blocks_after (Some terminal) blocks ≡ blocks → Takes terminal (from (sample terminal ∷ rest) names blocks)
      (from rest names blocks)
  takes terminal rest n b = record {
    token = sample terminal;
    stands = refl;
    fits = sample_is terminal;
    names = refl;
    blocks = refl;
  }

  pub takes_name : (rest : List Lexeme) → TakesName (name_at names blocks) (from (sample terminals.Name ∷ rest) names blocks)
      (from rest (names + 1) blocks)
  takes_name rest = named (sample_advances terminals.Name rest names blocks)
