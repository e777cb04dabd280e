-- What the code finds in what stands first.
use Rattle.std.specs.Prelude.{◌≡◌, Bool, false, Option, Some, None}
use Rattle.rb_base.specs.declared.edition.Edition.{Edition}
use Rattle.rb_base.specs.declared.edition.Edition.TheVariants as editions
use Rattle.rb_grammar.specs.declared.operators.Operator.{Operator}
use Rattle.rb_grammar.specs.declared.operators.Word.{Word}
use Rattle.rb_grammar.specs.declared.terminal.Terminal.{Terminal}
use Rattle.rb_grammar.specs.declared.terminal.Terminal.TheVariants as terminals
use Rattle.rb_grammar.specs.Machine.{fits}
use Rattle.rb_syntax.specs.declared.expression.Op.{Op}
use Rattle.rb_syntax.specs.declared.expression.Quantifier.{Quantifier}

-- An operator that the code found: that of what stands first, and which terminal this is.
abbrev pub FindsOperator : Option Op → Option Terminal → Option Operator → Type 0
FindsOperator here first None = here ≡ None
FindsOperator here first (Some found) = (here ≡ Some found.op) × (first ≡ Some found.terminal)

-- The word of a quantified expression that the code found, and which terminal this is.
abbrev pub FindsQuantifier : Option Quantifier → Option Terminal → Option Word → Type 0
FindsQuantifier here first None = here ≡ None
FindsQuantifier here first (Some found) = (here ≡ Some found.kind) × (first ≡ Some found.terminal)

-- whether a receipt goes on with a block
abbrev pub may_not_wait : Edition → Option Terminal → Bool
may_not_wait editions.First first = false
may_not_wait editions.Second first = fits first terminals.Else
