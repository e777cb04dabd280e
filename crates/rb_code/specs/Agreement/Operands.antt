-- How many operands expressions need: an expression that stands on n operands finds room for those that its code pushes.
use Rattle.std.specs.Prelude.{ℕ, suc, ◌<◌}
use Rattle.rb_base.specs.declared.limits.TheConstants.{MOST_OPERANDS}
use Rattle.rb_syntax.specs.declared.expression.Op.{Op}
use Rattle.rb_syntax.specs.declared.expression.Op.TheVariants as op
use Rattle.rb_syntax.specs.declared.expression.Quantifier.{Quantifier}
use Rattle.rb_syntax.specs.declared.expression.Quantifier.TheVariants.{Total}
use Rattle.rb_syntax.specs.Tree.{Expression, Literal, Variable, Former, Minus, Negation, Chained, Quantification, Reference, Refer, Scalar, Element, Links, NoLink, Linked}

-- how many operands the right operand of an operator stands on, where the left one stands on n
abbrev pub beside : Op → ℕ → ℕ
beside op.Or n = n
beside op.And n = n
beside _ n = suc n

-- how many the limits of a quantified expression stand on: a sum is kept below them
abbrev pub summed : Quantifier → ℕ → ℕ
summed Total n = suc n
summed _ n = n

abbrev mutual
  pub HasRoom : ℕ → Expression → Type 0
  HasRoom n (Literal number) = n < MOST_OPERANDS
  HasRoom n (Variable reference) = ReferenceHasRoom n reference
  HasRoom n (Former place reference) = ReferenceHasRoom n reference
  HasRoom n (Minus operand) = HasRoom n operand
  HasRoom n (Negation operand) = HasRoom n operand
  HasRoom n (Chained first links) = HasRoom n first × LinksHaveRoom n links
  HasRoom n (Quantification kind place name low high body) =
      (n < MOST_OPERANDS) × HasRoom (summed kind n) low × HasRoom (suc (summed kind n)) high × HasRoom (summed kind n) body

  pub ReferenceHasRoom : ℕ → Reference → Type 0
  ReferenceHasRoom n (Refer name Scalar) = n < MOST_OPERANDS
  ReferenceHasRoom n (Refer name (Element index)) = HasRoom n index

  pub LinksHaveRoom : ℕ → Links → Type 0
  LinksHaveRoom n NoLink = Unit {0}
  LinksHaveRoom n (Linked op right links) = (n < MOST_OPERANDS) × HasRoom (beside op n) right × LinksHaveRoom n links
