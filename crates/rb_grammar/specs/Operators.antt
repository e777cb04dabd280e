-- Which words and marks are operators, and of which level; which are comparisons; and which words begin a quantified
-- expression.
use Rattle.std.specs.Prelude.{Option, Some, None}
use Rattle.rb_grammar.specs.declared.level.Level.{Level}
use Rattle.rb_grammar.specs.declared.level.Level.TheVariants as levels
use Rattle.rb_grammar.specs.declared.terminal.Terminal.{Terminal}
use Rattle.rb_grammar.specs.declared.terminal.Terminal.TheVariants as terminals
use Rattle.rb_syntax.specs.declared.expression.Op.{Op}
use Rattle.rb_syntax.specs.declared.expression.Op.TheVariants as ops
use Rattle.rb_syntax.specs.declared.expression.Quantifier.{Quantifier}
use Rattle.rb_syntax.specs.declared.expression.Quantifier.TheVariants as quantifiers

-- the operator of a level that this is
abbrev pub operator : Option Terminal → Level → Option Op
operator (Some terminals.Or) levels.Disjunction = Some ops.Or
operator (Some terminals.And) levels.Conjunction = Some ops.And
operator (Some terminals.Plus) levels.Sum = Some ops.Add
operator (Some terminals.Minus) levels.Sum = Some ops.Sub
operator (Some terminals.Star) levels.Product = Some ops.Mul
operator (Some terminals.Slash) levels.Product = Some ops.Div
operator (Some terminals.Percent) levels.Product = Some ops.Rem
operator _ _ = None

-- the comparison that this is
abbrev pub comparison : Option Terminal → Option Op
comparison (Some terminals.Equal) = Some ops.Eq
comparison (Some terminals.Unequal) = Some ops.Ne
comparison (Some terminals.Less) = Some ops.Lt
comparison (Some terminals.LessEqual) = Some ops.Le
comparison (Some terminals.Greater) = Some ops.Gt
comparison (Some terminals.GreaterEqual) = Some ops.Ge
comparison _ = None

-- the quantified expression that begins so
abbrev pub quantifier : Option Terminal → Option Quantifier
quantifier (Some terminals.Every) = Some quantifiers.Every
quantifier (Some terminals.Some) = Some quantifiers.Any
quantifier (Some terminals.Sum) = Some quantifiers.Total
quantifier _ = None
