-- What stands behind a part and does not go on with it.
use Rattle.std.proofs.Common.{◌≡◌, Bool, true, false, ◌||◌, Option, Some, ◌⊎◌, inl, inr, refl, ap, ◌∙◌}
use Rattle.std.proofs.lemmas.Bool.{false≢true}
use Rattle.std.specs.Option.{is_some}
use Rattle.rb_base.specs.declared.edition.Edition.{Edition}
use Rattle.rb_base.specs.declared.edition.Edition.TheVariants as editions
use Rattle.rb_grammar.specs.declared.level.Level.{Level}
use Rattle.rb_grammar.specs.declared.level.Level.TheVariants as levels
use Rattle.rb_grammar.specs.declared.terminal.Terminal.{Terminal}
use Rattle.rb_grammar.specs.declared.terminal.Terminal.TheVariants as terminals
use Rattle.rb_grammar.specs.ExpressionTable.{start_link, start_compared, start_subscript}
use Rattle.rb_grammar.specs.Grammar.{Point}
use Rattle.rb_grammar.specs.Machine.{look}
use Rattle.rb_grammar.specs.Operators.{operator, comparison}
use Rattle.rb_grammar.specs.Parts.{Part}
use Rattle.rb_grammar.specs.StatementTable.{start_more_items, start_arguments, start_more_expressions, start_size}
use Rattle.rb_grammar.specs.StatementTable.{start_declarations, start_block, start_optional_else, start_receipt_end}
use Rattle.rb_grammar.specs.StatementTable.{start_statements}
use Rattle.rb_grammar.specs.Table.{start_more_names, start_parameters, start_procedures, start_processes, start_more_processes, start_connections}

-- whether a place would take this too
abbrev pub goes_place : Option Terminal → Bool
goes_place first = is_some (start_subscript first)

abbrev pub goes_product : Option Terminal → Bool
goes_product first = is_some (operator first levels.Product) || goes_place first

abbrev pub goes_sum : Option Terminal → Bool
goes_sum first = is_some (operator first levels.Sum) || goes_product first

abbrev pub goes_comparison : Option Terminal → Bool
goes_comparison first = is_some (comparison first) || goes_sum first

abbrev pub goes_conjunction : Option Terminal → Bool
goes_conjunction first = is_some (operator first levels.Conjunction) || goes_comparison first

abbrev pub goes_operand : Level → Option Terminal → Bool
goes_operand levels.Disjunction first = goes_conjunction first
goes_operand levels.Conjunction first = goes_comparison first
goes_operand levels.Sum first = goes_product first
goes_operand levels.Product first = goes_place first

abbrev pub goes_chain : Level → Option Terminal → Bool
goes_chain level first = is_some (operator first level) || goes_operand level first

abbrev pub goes_expression : Option Terminal → Bool
goes_expression first = goes_chain levels.Disjunction first

-- whether a part that could be over would take what stands behind it too
abbrev pub goes_on : Part → Option Terminal → Bool
goes_on Part.Connections first = is_some (start_connections first)
goes_on Part.Names first = is_some (start_more_names first)
goes_on Part.MoreNames first = is_some (start_more_names first)
goes_on (Part.Processes edition) first = is_some (start_more_processes edition first)
goes_on (Part.MoreProcesses edition) first = is_some (start_more_processes edition first)
goes_on (Part.Procedures edition) first = is_some (start_procedures edition first)
goes_on Part.Parameters first = is_some (start_parameters first) || is_some (start_more_names first)
goes_on Part.Declarations first = is_some (start_declarations first)
goes_on Part.Size first = is_some (start_size first)
goes_on (Part.Statements edition) first = is_some (start_statements edition first) || is_some (start_optional_else edition first)
goes_on (Part.Statement edition) first = is_some (start_optional_else edition first)
goes_on (Part.OptionalElse edition) first = is_some (start_optional_else edition first)
goes_on Part.Items first = is_some (start_more_items first) || goes_expression first
goes_on Part.MoreItems first = is_some (start_more_items first) || goes_expression first
goes_on Part.Item first = goes_expression first
goes_on Part.Arguments first = is_some (start_arguments first) || (is_some (start_more_expressions first) || goes_expression first)
goes_on Part.Expressions first = is_some (start_more_expressions first) || goes_expression first
goes_on Part.MoreExpressions first = is_some (start_more_expressions first) || goes_expression first
goes_on Part.Expression first = goes_expression first
goes_on (Part.Chain level) first = goes_chain level first
goes_on (Part.Links level) first = goes_chain level first
goes_on (Part.Operand level) first = goes_operand level first
goes_on Part.Negation first = goes_comparison first
goes_on Part.Comparison first = goes_comparison first
goes_on Part.Compared first = goes_comparison first
goes_on Part.Factor first = goes_place first
goes_on Part.Atom first = goes_place first
goes_on Part.Place first = goes_place first
goes_on Part.Subscript first = goes_place first
goes_on _ first = false

-- what stands between two parts is the first token of the second, or what stands behind it
pub between : (begins goes : Option Terminal → Bool) (b c : Point) →
    ((first : Option Terminal) → begins first ≡ true → goes first ≡ false) → (begins (look b.left) ≡ true) ⊎ (b ≡ c) →
    goes (look c.left) ≡ false → goes (look b.left) ≡ false
between begins goes b c apart (inl e) h = apart (look b.left) e
between begins goes b c apart (inr e) h = ap (λ at. goes (look at.left)) e ∙ h

pub neither : (a b : Bool) → (a || b) ≡ false → (a ≡ false) × (b ≡ false)
neither true b e = absurd cc
neither false b e = (refl, e)

pub links_end : (level : Level) (first : Option Terminal) → is_some (start_link level (operator first level)) ≡ true →
    goes_operand level first ≡ false
links_end levels.Disjunction (Some terminals.Or) e = refl
links_end levels.Conjunction (Some terminals.And) e = refl
links_end levels.Sum (Some terminals.Plus) e = refl
links_end levels.Sum (Some terminals.Minus) e = refl
links_end levels.Product (Some terminals.Star) e = refl
links_end levels.Product (Some terminals.Slash) e = refl
links_end levels.Product (Some terminals.Percent) e = refl
links_end levels.Disjunction _ e = absurd (false≢true e)
links_end levels.Conjunction _ e = absurd (false≢true e)
links_end levels.Sum _ e = absurd (false≢true e)
links_end levels.Product _ e = absurd (false≢true e)

pub compared_ends : (first : Option Terminal) → is_some (start_compared (comparison first)) ≡ true → goes_sum first ≡ false
compared_ends (Some terminals.Equal) e = refl
compared_ends (Some terminals.Unequal) e = refl
compared_ends (Some terminals.Less) e = refl
compared_ends (Some terminals.LessEqual) e = refl
compared_ends (Some terminals.Greater) e = refl
compared_ends (Some terminals.GreaterEqual) e = refl
compared_ends _ e = absurd (false≢true e)

pub block_ends : (edition : Edition) (first : Option Terminal) → is_some (start_block edition first) ≡ true → goes_expression first ≡ false
block_ends edition (Some terminals.OpenBrace) e = refl
block_ends edition _ e = absurd (false≢true e)

pub receipt_ends : (edition : Edition) (first : Option Terminal) → is_some (start_receipt_end edition first) ≡ true → goes_place first ≡ false
receipt_ends editions.First (Some terminals.OpenBracket) e = absurd (false≢true e)
receipt_ends editions.Second (Some terminals.OpenBracket) e = absurd (false≢true e)
receipt_ends _ _ e = refl

pub items_end : (first : Option Terminal) → is_some (start_more_items first) ≡ true → goes_expression first ≡ false
items_end (Some terminals.Comma) e = refl
items_end _ e = absurd (false≢true e)

pub expressions_end : (first : Option Terminal) → is_some (start_more_expressions first) ≡ true → goes_expression first ≡ false
expressions_end (Some terminals.Comma) e = refl
expressions_end _ e = absurd (false≢true e)

pub processes_end : (edition : Edition) (first : Option Terminal) → is_some (start_processes edition first) ≡ true →
    is_some (start_connections first) ≡ false
processes_end edition (Some terminals.Process) e = refl
processes_end edition _ e = absurd (false≢true e)

pub procedures_end : (edition : Edition) (first : Option Terminal) → is_some (start_procedures edition first) ≡ true →
    is_some (start_declarations first) ≡ false
procedures_end edition (Some terminals.Procedure) e = refl
procedures_end edition _ e = absurd (false≢true e)

pub statements_end_declarations : (edition : Edition) (first : Option Terminal) →
    is_some (start_statements edition first) ≡ true → is_some (start_declarations first) ≡ false
statements_end_declarations edition (Some terminals.Var) e = absurd (false≢true e)
statements_end_declarations edition _ e = refl

pub statements_end_procedures : (edition : Edition) (first : Option Terminal) → is_some (start_statements edition first) ≡ true →
    is_some (start_procedures edition first) ≡ false
statements_end_procedures edition (Some terminals.Procedure) e = absurd (false≢true e)
statements_end_procedures edition _ e = refl

pub statements_end_statement : (edition : Edition) (first : Option Terminal) → is_some (start_statements edition first) ≡ true →
    is_some (start_optional_else edition first) ≡ false
statements_end_statement edition (Some terminals.Else) e = absurd (false≢true e)
statements_end_statement edition _ e = refl
