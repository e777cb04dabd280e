-- How many operands the expressions of a tree need is bounded by its brackets: four for each that may be opened, and five more.
use Rattle.std.proofs.Common.{ℕ, ◌+◌, ◌-◌, ◌*◌, ◌≤◌, max, List, refl, sym, subst, arith}
use Rattle.rb_base.specs.declared.limits.TheConstants.{MOST_OPEN_BRACKETS}
use Rattle.rb_grammar.specs.Depth.{deepest}
use Rattle.rb_grammar.specs.Grammar.{Point, TakesText, joined, Derives, first_edition_row, second_edition_row, program_row}
use Rattle.rb_grammar.specs.Grammar.{no_connection_row, channels_row, conversations_row, channel_row, conversation_row, names_row}
use Rattle.rb_grammar.specs.Grammar.{no_name_row, more_names_row, processes_row, no_process_row, more_processes_row, process_row}
use Rattle.rb_grammar.specs.Grammar.{no_procedure_row, procedures_row, procedure_row, no_parameter_row, parameters_row}
use Rattle.rb_grammar.specs.Grammar.{no_declaration_row, declarations_row, declaration_row, no_size_row, size_row, block_row}
use Rattle.rb_grammar.specs.Grammar.{no_statement_row, statements_row, assignment_row, print_row, send_row, receive_row}
use Rattle.rb_grammar.specs.Grammar.{waits_row, never_waits_row, if_row, no_else_row, else_row, while_row, call_row, fail_row}
use Rattle.rb_grammar.specs.Grammar.{recover_row, converse_row, recovery_row, alternates_row, alternate_row, other_alternates_row}
use Rattle.rb_grammar.specs.Grammar.{error_row, items_row, no_item_row, more_items_row, text_row, amount_row, no_argument_row}
use Rattle.rb_grammar.specs.Grammar.{arguments_row, expressions_row, no_more_expression_row, more_expressions_row, expression_row}
use Rattle.rb_grammar.specs.Grammar.{quantified_row, chain_row, no_link_row, links_row, disjunct_row, conjunct_row, term_row}
use Rattle.rb_grammar.specs.Grammar.{factor_row, not_row, no_not_row, comparison_row, not_compared_row, compared_row, minus_row}
use Rattle.rb_grammar.specs.Grammar.{no_minus_row, literal_row, variable_row, prior_row, brackets_row, place_row}
use Rattle.rb_grammar.specs.Grammar.{no_subscript_row, subscript_row, number_row}
use Rattle.rb_grammar.specs.Parts.{Part}
use Rattle.rb_grammar.specs.Values.{Value}
use Rattle.rb_grammar.specs.Verdict.{HasTree}
use Rattle.rb_grammar.proofs.Depth.Room.{Keeps, past, opens, closes, past_name, past_number, past_text, past_ensure}
use Rattle.rb_grammar.proofs.Depth.Room.{past_operator, past_comparison, past_quantifier, none, then, around}
use Rattle.rb_syntax.specs.Tree.{Identifier, Printed, Words, Amount, PrintItem, Command, Assignment, Printing, Sending, Receiving, Conditional, Loop, Invocation, Failure, Recovering, Commands, NoCommand, Then, Body, Scope, Otherwise, NoElse, Else, RecoveryBlock, Recovers, Alternates, NoAlternate, Alternate, ProcedureDeclaration, ProcessDeclaration, Tree}
use Rattle.rb_prepare.proofs.Operands.Pushed.{operands, reference_operands, subscript_operands, links_operands, beside_most}
use Rattle.rb_prepare.proofs.Operands.Needed.{Needs, flat, nothing, one, behind, before, both, wider, upon, inside, operand_extra, chain_extra, operand_first, chain_some, right_extra, linked, chained}

-- the most operands that an expression of a part needs
abbrev pub printed_operands : Printed → ℕ
printed_operands (Words text) = 0
printed_operands (Amount value) = operands value

abbrev pub item_operands : PrintItem → ℕ
item_operands item = printed_operands item.what

abbrev mutual
  pub command_operands : Command → ℕ
  command_operands (Assignment to value) = max (reference_operands to) (operands value)
  command_operands (Printing items) = deepest item_operands items
  command_operands (Sending channel value) = operands value
  command_operands (Receiving channel to otherwise) = max (reference_operands to) (otherwise_operands otherwise)
  command_operands (Conditional test body otherwise) = max (operands test) (max (body_operands body) (otherwise_operands otherwise))
  command_operands (Loop test body) = max (operands test) (body_operands body)
  command_operands (Invocation procedure arguments) = deepest operands arguments
  command_operands Failure = 0
  command_operands (Recovering block) = recovery_operands block

  pub commands_operands : Commands → ℕ
  commands_operands NoCommand = 0
  commands_operands (Then first others) = max (command_operands first) (commands_operands others)

  pub body_operands : Body → ℕ
  body_operands (Scope variables commands) = commands_operands commands

  pub otherwise_operands : Otherwise → ℕ
  otherwise_operands NoElse = 0
  otherwise_operands (Else body) = body_operands body

  pub recovery_operands : RecoveryBlock → ℕ
  recovery_operands (Recovers number conversation place test bound alternates) = max (operands test) (alternates_operands alternates)

  pub alternates_operands : Alternates → ℕ
  alternates_operands NoAlternate = 0
  alternates_operands (Alternate body others) = max (body_operands body) (alternates_operands others)

abbrev pub procedure_operands : ProcedureDeclaration → ℕ
procedure_operands procedure = body_operands procedure.body

abbrev pub process_operands : ProcessDeclaration → ℕ
process_operands process = max (deepest procedure_operands process.procedures) (commands_operands process.commands)

abbrev pub tree_operands : Tree → ℕ
tree_operands tree = deepest process_operands tree.processes

-- how many each part needs at most; the others have no expression
abbrev pub Bounded : (part : Part) → Value part → Point → Point → Type 0
Bounded Part.Program v a b = Needs (tree_operands v) 5 a b
Bounded (Part.Unmarked edition) v a b = Needs (tree_operands v) 5 a b
Bounded (Part.Process edition) v a b = Needs (process_operands v) 5 a b
Bounded (Part.Processes edition) v a b = Needs (deepest process_operands v) 5 a b
Bounded (Part.MoreProcesses edition) v a b = Needs (deepest process_operands v) 5 a b
Bounded (Part.Procedures edition) v a b = Needs (deepest procedure_operands v) 5 a b
Bounded (Part.Procedure edition) v a b = Needs (procedure_operands v) 5 a b
Bounded (Part.Block edition) v a b = Needs (body_operands v) 5 a b
Bounded (Part.Statements edition) v a b = Needs (commands_operands v) 5 a b
Bounded (Part.Statement edition) v a b = Needs (command_operands v) 5 a b
Bounded (Part.OptionalElse edition) v a b = Needs (otherwise_operands v) 5 a b
Bounded (Part.ReceiptEnd edition) v a b = Needs (otherwise_operands v) 5 a b
Bounded (Part.Recovery edition) v a b = Needs (recovery_operands v) 5 a b
Bounded (Part.Alternates edition) v a b = Needs (alternates_operands v) 5 a b
Bounded (Part.Alternate edition) v a b = Needs (body_operands v) 5 a b
Bounded (Part.OtherAlternates edition) v a b = Needs (alternates_operands v) 5 a b
Bounded Part.Items v a b = Needs (deepest item_operands v) 5 a b
Bounded Part.MoreItems v a b = Needs (deepest item_operands v) 5 a b
Bounded Part.Item v a b = Needs (item_operands v) 5 a b
Bounded Part.Arguments v a b = Needs (deepest operands v) 5 a b
Bounded Part.Expressions v a b = Needs (deepest operands v) 5 a b
Bounded Part.MoreExpressions v a b = Needs (deepest operands v) 5 a b
Bounded Part.Expression v a b = Needs (operands v) 5 a b
Bounded (Part.Chain level) v a b = Needs (operands v) (chain_extra level) a b
Bounded (Part.Links level) v a b = Needs (links_operands v) (chain_extra level) a b
Bounded (Part.Operand level) v a b = Needs (operands v) (operand_extra level) a b
Bounded Part.Negation v a b = Needs (operands v) 4 a b
Bounded Part.Comparison v a b = Needs (operands v) 4 a b
Bounded Part.Compared v a b = Needs (links_operands v) 4 a b
Bounded Part.Factor v a b = Needs (operands v) 1 a b
Bounded Part.Atom v a b = Needs (operands v) 1 a b
Bounded Part.Place v a b = Needs (reference_operands v) 1 a b
Bounded Part.Subscript v a b = Needs (subscript_operands v) 1 a b
Bounded part v a b = Keeps a b

text_needs : {item : PrintItem} {a b : Point} → TakesText item a b → Needs (item_operands item) 5 a b
text_needs {a = a} {b = b} t = subst (λ item. Needs (item_operands item) 5 a b) (sym t.is) (flat (past_text t))

joined_needs : (name : Identifier) (block : RecoveryBlock) {extra : ℕ} {a b : Point} → Needs (recovery_operands block) extra a b →
    Needs (recovery_operands (joined name block)) extra a b
joined_needs name (Recovers number conversation place test bound alternates) s = s

pub bounded : {part : Part} {value : Value part} {a b : Point} → Derives part value a b → Bounded part value a b
bounded (first_edition_row d) = bounded d
bounded (second_edition_row t u v d) = behind (then (past t refl) (then (past u refl) (past v refl))) (bounded d)
bounded (program_row t n u d e v w) =
    behind (then (past t refl) (then (past_name n) (then (past u refl) (bounded d)))) (before (bounded e) (then (past v refl) (past w refl)))
bounded no_connection_row = none
bounded (channels_row d e) = then (bounded d) (bounded e)
bounded (conversations_row d e) = then (bounded d) (bounded e)
bounded (channel_row t n u m v k w d x) =
    then (past t refl) (then (past_name n) (then (past u refl)
    (then (past_name m) (then (past v refl) (then (past_name k) (then (past w refl) (then (bounded d) (past x refl))))))))
bounded (conversation_row t n u d v w) =
    then (past t refl) (then (past_name n) (then (around (opens u refl) (bounded d) (closes v refl)) (past w refl)))
bounded (names_row n d) = then (past_name n) (bounded d)
bounded no_name_row = none
bounded (more_names_row t n d) = then (past t refl) (then (past_name n) (bounded d))
bounded (processes_row d e) = both (bounded d) (bounded e)
bounded no_process_row = nothing
bounded (more_processes_row d e) = both (bounded d) (bounded e)
bounded (process_row t n u d e f v) =
    behind (then (past t refl) (past_name n))
    (inside (opens u refl) (behind (bounded d) (both (bounded e) (bounded f))) (closes v refl) (omega arith))
bounded no_procedure_row = nothing
bounded (procedures_row d e) = both (bounded d) (bounded e)
bounded (procedure_row t n u d v e) =
    behind (then (past t refl) (then (past_name n) (around (opens u refl) (bounded d) (closes v refl)))) (bounded e)
bounded no_parameter_row = none
bounded (parameters_row d) = bounded d
bounded no_declaration_row = none
bounded (declarations_row d e) = then (bounded d) (bounded e)
bounded (declaration_row t n d u) = then (past t refl) (then (past_name n) (then (bounded d) (past u refl)))
bounded no_size_row = none
bounded (size_row t d u) = around (opens t refl) (bounded d) (closes u refl)
bounded (block_row t d e u) = inside (opens t refl) (behind (bounded d) (bounded e)) (closes u refl) (omega arith)
bounded no_statement_row = nothing
bounded (statements_row d e) = both (bounded d) (bounded e)
bounded (assignment_row d t e u) = both (wider (bounded d) (omega arith)) (behind (past t refl) (before (bounded e) (past u refl)))
bounded (print_row t d u) = behind (past t refl) (before (bounded d) (past u refl))
bounded (send_row t n d u) = behind (then (past t refl) (past_name n)) (before (bounded d) (past u refl))
bounded (receive_row t n d e) = behind (then (past t refl) (past_name n)) (both (wider (bounded d) (omega arith)) (bounded e))
bounded (waits_row t) = flat (past t refl)
bounded (never_waits_row t d) = behind (past t refl) (bounded d)
bounded (if_row t d e f) = behind (past t refl) (both (bounded d) (both (bounded e) (bounded f)))
bounded no_else_row = nothing
bounded (else_row t d) = behind (past t refl) (bounded d)
bounded (while_row t d e) = behind (past t refl) (both (bounded d) (bounded e))
bounded (call_row t n u d v w) =
    behind (then (past t refl) (past_name n)) (before (inside (opens u refl) (bounded d) (closes v refl) (omega arith)) (past w refl))
bounded (fail_row t u) = flat (then (past t refl) (past u refl))
bounded (recover_row d) = bounded d
bounded (converse_row {conversation = name} {block = block} t n d) =
    behind (then (past t refl) (past_name n)) (joined_needs name block (bounded d))
bounded (recovery_row m d t e f) = behind (past_ensure m) (both (bounded d) (behind (then (past t refl) (bounded e)) (bounded f)))
bounded (alternates_row d e) = both (bounded d) (bounded e)
bounded (alternate_row t d u) = behind (past t refl) (before (bounded d) (past u refl))
bounded (other_alternates_row d e) = both (bounded d) (bounded e)
bounded (error_row t u) = flat (then (past t refl) (past u refl))
bounded (items_row d e) = both (bounded d) (bounded e)
bounded no_item_row = nothing
bounded (more_items_row t d e) = behind (past t refl) (both (bounded d) (bounded e))
bounded (text_row t) = text_needs t
bounded (amount_row s d) = bounded d
bounded no_argument_row = nothing
bounded (arguments_row d) = bounded d
bounded (expressions_row d e) = both (bounded d) (bounded e)
bounded no_more_expression_row = nothing
bounded (more_expressions_row t d e) = behind (past t refl) (both (bounded d) (bounded e))
bounded (expression_row d) = wider (bounded d) (omega arith)
bounded (quantified_row q n t d u e v f) =
    behind (then (past_quantifier q) (then (past_name n) (past t refl)))
    (both (upon 1 (bounded d) (omega arith))
    (behind (past u refl) (both (upon 2 (bounded e) (omega arith)) (behind (past v refl) (upon 1 (bounded f) (omega arith))))))
bounded (chain_row {level = level} {first = first} {links = links} d e) =
    chained first links (wider (bounded d) (operand_first level)) (bounded e)
bounded no_link_row = nothing
bounded (links_row {level = level} {op = op} {right = right} o d e) =
    behind (past_operator o) (linked op (right_extra level o.terminal op (operands right) o.is) (chain_some level) (bounded d) (bounded e))
bounded (disjunct_row d) = bounded d
bounded (conjunct_row d) = bounded d
bounded (term_row d) = bounded d
bounded (factor_row d) = bounded d
bounded (not_row t d) = behind (past t refl) (bounded d)
bounded (no_not_row d) = bounded d
bounded (comparison_row {left = left} {links = links} d e) = chained left links (wider (bounded d) (omega arith)) (bounded e)
bounded not_compared_row = nothing
bounded (compared_row {op = op} {right = right} o d) =
    behind (past_comparison o) (linked op {less = 3} (let most = beside_most op (operands right) in omega arith) (omega arith) (bounded d) nothing)
bounded (minus_row t d) = behind (past t refl) (bounded d)
bounded (no_minus_row d) = bounded d
bounded (literal_row d) = one (bounded d)
bounded (variable_row d) = bounded d
bounded (prior_row w d) = behind (past w.takes refl) (bounded d)
bounded (brackets_row t d u) = inside (opens t refl) (bounded d) (closes u refl) (omega arith)
bounded (place_row n d) = behind (past_name n) (bounded d)
bounded no_subscript_row = one none
bounded (subscript_row t d u) = inside (opens t refl) (bounded d) (closes u refl) (omega arith)
bounded (number_row i) = past_number i

-- the most operands that an expression of a text needs
abbrev pub most_needed : ℕ
most_needed = 405

pub tree_needs_few : (source : List ℕ) (tree : Tree) → HasTree source tree → tree_operands tree ≤ most_needed
tree_needs_few source tree h =
    let bound : tree_operands tree ≤ 4 * (MOST_OPEN_BRACKETS - 0) + 5 = (bounded h.derived.derived).bound MOST_OPEN_BRACKETS 0 h.few_open in
    omega (arith, bound)
