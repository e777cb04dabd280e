-- The depth of a tree is bounded by its brackets: in each pair of brackets at most nine expressions, or eight and a
-- statement, stand inside each other and around the next pair.
use Rattle.std.proofs.Common.{ℕ, ◌+◌, ◌-◌, ◌*◌, ◌≤◌, refl, sym, subst, arith}
use Rattle.rb_base.specs.declared.limits.TheConstants.{MOST_OPEN_BRACKETS}
use Rattle.rb_grammar.specs.declared.level.Level.{Level}
use Rattle.rb_grammar.specs.declared.level.Level.TheVariants as levels
use Rattle.rb_grammar.specs.Depth.{deepest, expression_depth, reference_depth, subscript_depth, links_depth, item_depth}
use Rattle.rb_grammar.specs.Depth.{command_depth, commands_depth, body_depth, otherwise_depth, recovery_depth, alternates_depth}
use Rattle.rb_grammar.specs.Depth.{procedure_depth, process_depth, depth}
use Rattle.rb_grammar.specs.Grammar.{Point, TakesText, chain, joined, Derives, first_edition_row, second_edition_row, program_row}
use Rattle.rb_grammar.specs.Grammar.{no_connection_row, channels_row, conversations_row, channel_row, conversation_row, names_row}
use Rattle.rb_grammar.specs.Grammar.{no_name_row, more_names_row, processes_row, no_process_row, more_processes_row, process_row}
use Rattle.rb_grammar.specs.Grammar.{no_procedure_row, procedures_row, procedure_row, no_parameter_row, parameters_row}
use Rattle.rb_grammar.specs.Grammar.{no_declaration_row, declarations_row, declaration_row, no_size_row, size_row, block_row}
use Rattle.rb_grammar.specs.Grammar.{no_statement_row, statements_row, assignment_row, print_row, send_row, receive_row}
use Rattle.rb_grammar.specs.Grammar.{waits_row, never_waits_row, if_row, no_else_row, else_row, while_row, call_row, fail_row}
use Rattle.rb_grammar.specs.Grammar.{recover_row, converse_row, recovery_row, alternates_row, alternate_row, other_alternates_row}
use Rattle.rb_grammar.specs.Grammar.{error_row, items_row, no_item_row, more_items_row, text_row, amount_row, no_argument_row}
use Rattle.rb_grammar.specs.Grammar.{arguments_row, expressions_row, no_more_expression_row, more_expressions_row, expression_row}
use Rattle.rb_grammar.specs.Grammar.{quantified_row, chain_row, no_link_row, links_row, disjunct_row, conjunct_row, term_row}
use Rattle.rb_grammar.specs.Grammar.{factor_row, not_row, no_not_row, comparison_row, not_compared_row, compared_row, minus_row}
use Rattle.rb_grammar.specs.Grammar.{no_minus_row, literal_row, variable_row, prior_row, brackets_row, place_row}
use Rattle.rb_grammar.specs.Grammar.{no_subscript_row, subscript_row, number_row}
use Rattle.rb_grammar.specs.Laws.{DepthIsBounded}
use Rattle.rb_grammar.specs.Parts.{Part}
use Rattle.rb_grammar.specs.Values.{Value}
use Rattle.rb_grammar.specs.VerdictLaws.{TreesAreShallow}
use Rattle.rb_grammar.proofs.Depth.Room.{Keeps, Deep, past, opens, closes, past_name, past_number, past_text, past_ensure}
use Rattle.rb_grammar.proofs.Depth.Room.{past_operator, past_comparison, past_quantifier, none, then, around, flat, nothing, behind}
use Rattle.rb_grammar.proofs.Depth.Room.{before, both, wider, more, inside}
use Rattle.rb_syntax.specs.Tree.{Identifier, Expression, Links, NoLink, Linked, PrintItem, RecoveryBlock, Recovers}

-- how deep what operators of a level join may be outside of brackets
abbrev operand_extra : Level → ℕ
operand_extra levels.Disjunction = 7
operand_extra levels.Conjunction = 6
operand_extra levels.Sum = 3
operand_extra levels.Product = 2

-- how deep each part is at most; the others have no depth
abbrev pub Bounded : (part : Part) → Value part → Point → Point → Type 0
Bounded Part.Program v a b = Deep (depth v) 1 a b
Bounded (Part.Unmarked edition) v a b = Deep (depth v) 1 a b
Bounded (Part.Process edition) v a b = Deep (process_depth v) 1 a b
Bounded (Part.Processes edition) v a b = Deep (deepest process_depth v) 1 a b
Bounded (Part.MoreProcesses edition) v a b = Deep (deepest process_depth v) 1 a b
Bounded (Part.Procedures edition) v a b = Deep (deepest procedure_depth v) 1 a b
Bounded (Part.Procedure edition) v a b = Deep (procedure_depth v) 1 a b
Bounded (Part.Block edition) v a b = Deep (body_depth v) 1 a b
Bounded (Part.Statements edition) v a b = Deep (commands_depth v) 10 a b
Bounded (Part.Statement edition) v a b = Deep (command_depth v) 10 a b
Bounded (Part.OptionalElse edition) v a b = Deep (otherwise_depth v) 1 a b
Bounded (Part.ReceiptEnd edition) v a b = Deep (otherwise_depth v) 1 a b
Bounded (Part.Recovery edition) v a b = Deep (recovery_depth v) 9 a b
Bounded (Part.Alternates edition) v a b = Deep (alternates_depth v) 1 a b
Bounded (Part.Alternate edition) v a b = Deep (body_depth v) 1 a b
Bounded (Part.OtherAlternates edition) v a b = Deep (alternates_depth v) 1 a b
Bounded Part.Items v a b = Deep (deepest item_depth v) 9 a b
Bounded Part.MoreItems v a b = Deep (deepest item_depth v) 9 a b
Bounded Part.Item v a b = Deep (item_depth v) 9 a b
Bounded Part.Arguments v a b = Deep (deepest expression_depth v) 9 a b
Bounded Part.Expressions v a b = Deep (deepest expression_depth v) 9 a b
Bounded Part.MoreExpressions v a b = Deep (deepest expression_depth v) 9 a b
Bounded Part.Expression v a b = Deep (expression_depth v) 9 a b
Bounded (Part.Chain level) v a b = Deep (expression_depth v) (operand_extra level + 1) a b
Bounded (Part.Links level) v a b = Deep (links_depth v) (operand_extra level) a b
Bounded (Part.Operand level) v a b = Deep (expression_depth v) (operand_extra level) a b
Bounded Part.Negation v a b = Deep (expression_depth v) 6 a b
Bounded Part.Comparison v a b = Deep (expression_depth v) 5 a b
Bounded Part.Compared v a b = Deep (links_depth v) 4 a b
Bounded Part.Factor v a b = Deep (expression_depth v) 2 a b
Bounded Part.Atom v a b = Deep (expression_depth v) 1 a b
Bounded Part.Place v a b = Deep (reference_depth v) 0 a b
Bounded Part.Subscript v a b = Deep (subscript_depth v) 0 a b
Bounded part v a b = Keeps a b

chained : (first : Expression) (links : Links) {extra : ℕ} {a b c : Point} → Deep (expression_depth first) extra a b →
    Deep (links_depth links) extra b c → Deep (expression_depth (chain first links)) (extra + 1) a c
chained first NoLink s t = wider (before s t.keeps) (omega arith)
chained first (Linked op right links) s t = more (both s t)

-- a statement is one more
stated : {d : ℕ} {a b : Point} → Deep d 9 a b → Deep (1 + d) 10 a b
stated s = more {extra = 9} s

text_deep : {item : PrintItem} {a b : Point} → TakesText item a b → Deep (item_depth item) 9 a b
text_deep {a = a} {b = b} t = subst (λ item. Deep (item_depth item) 9 a b) (sym t.is) (flat (past_text t))

joined_deep : (name : Identifier) (block : RecoveryBlock) {extra : ℕ} {a b : Point} → Deep (recovery_depth block) extra a b →
    Deep (recovery_depth (joined name block)) extra a b
joined_deep name (Recovers number conversation place test bound alternates) s = s

pub bounded : {part : Part} {value : Value part} {a b : Point} → Derives part value a b → Bounded part value a b
bounded (first_edition_row d) = bounded d
bounded (second_edition_row t u v d) = behind (then (past t refl) (then (past u refl) (past v refl))) (bounded d)
bounded (program_row t n u d e v w) =
    behind (then (past t refl) (then (past_name n) (then (past u refl) (bounded d)))) (before (bounded e) (then (past v refl) (past w refl)))
bounded no_connection_row = none
bounded (channels_row d e) = then (bounded d) (bounded e)
bounded (conversations_row d e) = then (bounded d) (bounded e)
bounded (channel_row t n u m v k w d x) =
    then (past t refl) (then (past_name n) (then (past u refl)
    (then (past_name m) (then (past v refl) (then (past_name k) (then (past w refl) (then (bounded d) (past x refl))))))))
bounded (conversation_row t n u d v w) =
    then (past t refl) (then (past_name n) (then (around (opens u refl) (bounded d) (closes v refl)) (past w refl)))
bounded (names_row n d) = then (past_name n) (bounded d)
bounded no_name_row = none
bounded (more_names_row t n d) = then (past t refl) (then (past_name n) (bounded d))
bounded (processes_row d e) = both (bounded d) (bounded e)
bounded no_process_row = nothing
bounded (more_processes_row d e) = both (bounded d) (bounded e)
bounded (process_row t n u d e f v) =
    behind (then (past t refl) (past_name n)) (inside (opens u refl)
    (behind (bounded d) (both (wider (bounded e) (omega arith)) (bounded f))) (closes v refl) (omega arith))
bounded no_procedure_row = nothing
bounded (procedures_row d e) = both (bounded d) (bounded e)
bounded (procedure_row t n u d v e) =
    behind (then (past t refl) (then (past_name n) (around (opens u refl) (bounded d) (closes v refl)))) (bounded e)
bounded no_parameter_row = none
bounded (parameters_row d) = bounded d
bounded no_declaration_row = none
bounded (declarations_row d e) = then (bounded d) (bounded e)
bounded (declaration_row t n d u) = then (past t refl) (then (past_name n) (then (bounded d) (past u refl)))
bounded no_size_row = none
bounded (size_row t d u) = around (opens t refl) (bounded d) (closes u refl)
bounded (block_row t d e u) = inside (opens t refl) (behind (bounded d) (bounded e)) (closes u refl) (omega arith)
bounded no_statement_row = nothing
bounded (statements_row d e) = both (bounded d) (bounded e)
bounded (assignment_row d t e u) =
    stated (both (wider (bounded d) (omega arith)) (behind (past t refl) (before (bounded e) (past u refl))))
bounded (print_row t d u) = stated (behind (past t refl) (before (bounded d) (past u refl)))
bounded (send_row t n d u) = stated (behind (then (past t refl) (past_name n)) (before (bounded d) (past u refl)))
bounded (receive_row t n d e) =
    stated (behind (then (past t refl) (past_name n)) (both (wider (bounded d) (omega arith)) (wider (bounded e) (omega arith))))
bounded (waits_row t) = flat (past t refl)
bounded (never_waits_row t d) = behind (past t refl) (bounded d)
bounded (if_row t d e f) =
    stated (behind (past t refl) (both (bounded d) (wider (both (bounded e) (bounded f)) (omega arith))))
bounded no_else_row = nothing
bounded (else_row t d) = behind (past t refl) (bounded d)
bounded (while_row t d e) = stated (behind (past t refl) (both (bounded d) (wider (bounded e) (omega arith))))
bounded (call_row t n u d v w) =
    stated (behind (then (past t refl) (past_name n)) (before (inside (opens u refl) (bounded d) (closes v refl) (omega arith)) (past w refl)))
bounded (fail_row t u) = stated (flat (then (past t refl) (past u refl)))
bounded (recover_row d) = stated (bounded d)
bounded (converse_row {conversation = name} {block = block} t n d) =
    stated (behind (then (past t refl) (past_name n)) (joined_deep name block (bounded d)))
bounded (recovery_row m d t e f) =
    behind (past_ensure m) (both (bounded d) (behind (then (past t refl) (bounded e)) (wider (bounded f) (omega arith))))
bounded (alternates_row d e) = both (bounded d) (bounded e)
bounded (alternate_row t d u) = behind (past t refl) (before (bounded d) (past u refl))
bounded (other_alternates_row d e) = both (bounded d) (bounded e)
bounded (error_row t u) = flat (then (past t refl) (past u refl))
bounded (items_row d e) = both (bounded d) (bounded e)
bounded no_item_row = nothing
bounded (more_items_row t d e) = behind (past t refl) (both (bounded d) (bounded e))
bounded (text_row t) = text_deep t
bounded (amount_row s d) = bounded d
bounded no_argument_row = nothing
bounded (arguments_row d) = bounded d
bounded (expressions_row d e) = both (bounded d) (bounded e)
bounded no_more_expression_row = nothing
bounded (more_expressions_row t d e) = behind (past t refl) (both (bounded d) (bounded e))
bounded (expression_row d) = wider (bounded d) (omega arith)
bounded (quantified_row q n t d u e v f) =
    behind (then (past_quantifier q) (then (past_name n) (past t refl)))
    (more {extra = 8} (both (wider (bounded d) (omega arith))
    (behind (past u refl) (both (wider (bounded e) (omega arith)) (behind (past v refl) (bounded f))))))
bounded (chain_row {first = first} {links = links} d e) = chained first links (bounded d) (bounded e)
bounded no_link_row = nothing
bounded (links_row o d e) = behind (past_operator o) (both (bounded d) (bounded e))
bounded (disjunct_row d) = bounded d
bounded (conjunct_row d) = bounded d
bounded (term_row d) = bounded d
bounded (factor_row d) = bounded d
bounded (not_row t d) = behind (past t refl) (more (bounded d))
bounded (no_not_row d) = wider (bounded d) (omega arith)
bounded (comparison_row {left = left} {links = links} d e) = chained left links (bounded d) (bounded e)
bounded not_compared_row = nothing
bounded (compared_row o d) = behind (past_comparison o) (both (bounded d) nothing)
bounded (minus_row t d) = behind (past t refl) (more (bounded d))
bounded (no_minus_row d) = wider (bounded d) (omega arith)
bounded (literal_row d) = more {extra = 0} (flat (bounded d))
bounded (variable_row d) = more (bounded d)
bounded (prior_row w d) = behind (past w.takes refl) (more (bounded d))
bounded (brackets_row t d u) = inside (opens t refl) (bounded d) (closes u refl) (omega arith)
bounded (place_row n d) = behind (past_name n) (bounded d)
bounded no_subscript_row = nothing
bounded (subscript_row t d u) = inside (opens t refl) (bounded d) (closes u refl) (omega arith)
bounded (number_row i) = past_number i

pub depth_is_bounded : DepthIsBounded
depth_is_bounded tokens tree n d few =
    let bound : depth tree ≤ 9 * (n - 0) + 1 = (bounded d.derived).bound n 0 few in omega (arith, bound)

pub trees_are_shallow : TreesAreShallow
trees_are_shallow bytes tree h = depth_is_bounded h.tokens tree MOST_OPEN_BRACKETS h.derived h.few_open
