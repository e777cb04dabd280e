-- What derives a tree has as many bytes as the tree weighs.
use Rattle.std.proofs.Common.{◌≡◌, ℕ, ◌+◌, ◌≤◌, List, [], ◌∷◌, length, refl, arith}
use Rattle.rb_base.specs.declared.limits.TheConstants.{MOST_BYTES}
use Rattle.rb_lex.specs.Tokens.{AtEnd}
use Rattle.rb_grammar.specs.Grammar.{Point, chain, joined, Derives, first_edition_row, second_edition_row}
use Rattle.rb_grammar.specs.Grammar.{program_row, no_connection_row, channels_row, conversations_row, channel_row}
use Rattle.rb_grammar.specs.Grammar.{conversation_row, names_row, no_name_row, more_names_row, processes_row, no_process_row}
use Rattle.rb_grammar.specs.Grammar.{more_processes_row, process_row, no_procedure_row, procedures_row, procedure_row}
use Rattle.rb_grammar.specs.Grammar.{no_parameter_row, parameters_row, no_declaration_row, declarations_row, declaration_row}
use Rattle.rb_grammar.specs.Grammar.{no_size_row, size_row, block_row, no_statement_row, statements_row, assignment_row}
use Rattle.rb_grammar.specs.Grammar.{print_row, send_row, receive_row, waits_row, never_waits_row, if_row, no_else_row, else_row}
use Rattle.rb_grammar.specs.Grammar.{while_row, call_row, fail_row, recover_row, converse_row, recovery_row, alternates_row}
use Rattle.rb_grammar.specs.Grammar.{alternate_row, other_alternates_row, error_row, items_row, no_item_row, more_items_row}
use Rattle.rb_grammar.specs.Grammar.{text_row, amount_row, no_argument_row, arguments_row, expressions_row}
use Rattle.rb_grammar.specs.Grammar.{no_more_expression_row, more_expressions_row, expression_row, quantified_row, chain_row}
use Rattle.rb_grammar.specs.Grammar.{no_link_row, links_row, disjunct_row, conjunct_row, term_row, factor_row, not_row}
use Rattle.rb_grammar.specs.Grammar.{no_not_row, comparison_row, not_compared_row, compared_row, minus_row, no_minus_row}
use Rattle.rb_grammar.specs.Grammar.{literal_row, variable_row, prior_row, brackets_row, place_row, no_subscript_row}
use Rattle.rb_grammar.specs.Grammar.{subscript_row, number_row}
use Rattle.rb_grammar.specs.Parts.{Part}
use Rattle.rb_grammar.specs.Values.{Value}
use Rattle.rb_grammar.specs.Verdict.{HasTree}
use Rattle.rb_syntax.specs.Tree.{Identifier, Expression, Links, NoLink, Linked, RecoveryBlock, Recovers, Tree}
use Rattle.rb_sizes.proofs.Weighing.Numbers.{number_extra}
use Rattle.rb_sizes.proofs.Weighing.Sizes.{size_some, total_fits}
use Rattle.rb_sizes.proofs.Weighing.Spelled.{ahead, past, past_at, past_comparison, past_ensure, past_name, past_number, past_operator, past_quantifier, past_text}
use Rattle.rb_sizes.proofs.Weighing.Weights.{alternates_weight, arguments_weight, body_weight, channels_weight, command_weight, commands_weight, conversations_weight, declaration_weight, declarations_weight, expression_weight, items_weight, links_weight, otherwise_weight, printed_weight, procedures_weight, process_weight, processes_weight, recovery_weight, reference_weight, size_weight, subscript_weight, weight}

-- how much a part weighs; a first item, and a first argument, has nothing in front of it
abbrev part_weight : (part : Part) → Value part → ℕ
part_weight Part.Program v = weight v
part_weight (Part.Unmarked edition) v = weight v
part_weight Part.Connections v = channels_weight v.0 + conversations_weight v.1
part_weight Part.Channel v = channels_weight (v ∷ [])
part_weight Part.Conversation v = conversations_weight (v ∷ [])
part_weight Part.Names v = length v
part_weight Part.MoreNames v = length v
part_weight (Part.Process edition) v = process_weight v
part_weight (Part.Processes edition) v = processes_weight v
part_weight (Part.MoreProcesses edition) v = processes_weight v
part_weight (Part.Procedures edition) v = procedures_weight v
part_weight (Part.Procedure edition) v = procedures_weight (v ∷ [])
part_weight Part.Parameters v = length v
part_weight Part.Declarations v = declarations_weight v
part_weight Part.Declaration v = declaration_weight v
part_weight Part.Size v = size_weight v
part_weight (Part.Block edition) v = body_weight v
part_weight (Part.Statements edition) v = commands_weight v
part_weight (Part.Statement edition) v = command_weight v
part_weight (Part.OptionalElse edition) v = otherwise_weight v
part_weight (Part.ReceiptEnd edition) v = otherwise_weight v
part_weight (Part.Recovery edition) v = recovery_weight v
part_weight (Part.Alternates edition) v = 2 + alternates_weight v
part_weight (Part.Alternate edition) v = 2 + body_weight v
part_weight (Part.OtherAlternates edition) v = 2 + alternates_weight v
part_weight Part.Items v = items_weight v
part_weight Part.MoreItems v = items_weight v
part_weight Part.Item v = printed_weight v.what
part_weight Part.Arguments v = arguments_weight v
part_weight Part.Expressions v = arguments_weight v
part_weight Part.MoreExpressions v = arguments_weight v
part_weight Part.Expression v = expression_weight v
part_weight (Part.Chain level) v = expression_weight v
part_weight (Part.Links level) v = links_weight v
part_weight (Part.Operand level) v = expression_weight v
part_weight Part.Negation v = expression_weight v
part_weight Part.Comparison v = expression_weight v
part_weight Part.Compared v = links_weight v
part_weight Part.Factor v = expression_weight v
part_weight Part.Atom v = expression_weight v
part_weight Part.Place v = reference_weight v
part_weight Part.Subscript v = subscript_weight v
part_weight Part.Number v = 1 + number_extra v.value

-- how much more than its own bytes a part weighs: a first item, or a first argument, counts what stands in front of it
abbrev slack : Part → ℕ
slack Part.Items = 1
slack Part.Arguments = 1
slack Part.Expressions = 1
slack _ = 0

chain_weight : (first : Expression) (links : Links) → expression_weight (chain first links) ≡ expression_weight first + links_weight links
chain_weight first NoLink = omega arith
chain_weight first (Linked op right links) = refl

joined_weighs : (name : Identifier) (block : RecoveryBlock) → recovery_weight (joined name block) ≤ 2 + recovery_weight block
joined_weighs name (Recovers number conversation place test bound alternates) = omega arith

weighs : {part : Part} {value : Value part} {a b : Point} → Derives part value a b → part_weight part value + ahead b ≤ slack part + ahead a
weighs (first_edition_row d) = weighs d
weighs (second_edition_row t u v d) = omega (arith, past t, past u, past v, weighs d)
weighs (program_row {name = name} t n u d e v w) =
    omega (arith, past t, past_name n, size_some name.text, past u, weighs d, weighs e, past v, past w)
weighs no_connection_row = omega arith
weighs (channels_row d e) = omega (arith, weighs d, weighs e)
weighs (conversations_row d e) = omega (arith, weighs d, weighs e)
weighs (channel_row {sender = sender} {receiver = receiver} t n u m v k w d x) =
    omega (arith, past t, past_name n, past u, past_name m, size_some sender.text, past v, past_name k, size_some receiver.text, past w, weighs d, past x)
weighs (conversation_row t n u d v w) = omega (arith, past t, past_name n, past u, weighs d, past v, past w)
weighs (names_row {first = first} n d) = omega (arith, past_name n, size_some first.text, weighs d)
weighs no_name_row = omega arith
weighs (more_names_row {first = first} t n d) = omega (arith, past t, past_name n, size_some first.text, weighs d)
weighs (processes_row d e) = omega (arith, weighs d, weighs e)
weighs no_process_row = omega arith
weighs (more_processes_row d e) = omega (arith, weighs d, weighs e)
weighs (process_row t n u d e f v) = omega (arith, past t, past_name n, past u, weighs d, weighs e, weighs f, past v)
weighs no_procedure_row = omega arith
weighs (procedures_row d e) = omega (arith, weighs d, weighs e)
weighs (procedure_row t n u d v e) = omega (arith, past t, past_name n, past u, weighs d, past v, weighs e)
weighs no_parameter_row = omega arith
weighs (parameters_row d) = omega (arith, weighs d)
weighs no_declaration_row = omega arith
weighs (declarations_row d e) = omega (arith, weighs d, weighs e)
weighs (declaration_row t n d u) = omega (arith, past t, past_name n, weighs d, past u)
weighs no_size_row = omega arith
weighs (size_row t d u) = omega (arith, past t, weighs d, past u)
weighs (block_row t d e u) = omega (arith, past t, weighs d, weighs e, past u)
weighs no_statement_row = omega arith
weighs (statements_row d e) = omega (arith, weighs d, weighs e)
weighs (assignment_row d t e u) = omega (arith, weighs d, past t, weighs e, past u)
weighs (print_row t d u) = omega (arith, past t, weighs d, past u)
weighs (send_row {channel = channel} t n d u) = omega (arith, past t, past_name n, size_some channel.text, weighs d, past u)
weighs (receive_row {channel = channel} t n d e) = omega (arith, past t, past_name n, size_some channel.text, weighs d, weighs e)
weighs (waits_row t) = omega (arith, past t)
weighs (never_waits_row t d) = omega (arith, past t, weighs d)
weighs (if_row t d e f) = omega (arith, past t, weighs d, weighs e, weighs f)
weighs no_else_row = omega arith
weighs (else_row t d) = omega (arith, past t, weighs d)
weighs (while_row t d e) = omega (arith, past t, weighs d, weighs e)
weighs (call_row {procedure = procedure} t n u d v w) =
    omega (arith, past t, past_name n, size_some procedure.text, past u, weighs d, past v, past w)
weighs (fail_row t u) = omega (arith, past t, past u)
weighs (recover_row d) = weighs d
weighs (converse_row {conversation = name} {block = block} t n d) =
    omega (arith, past t, past_name n, size_some name.text, weighs d, joined_weighs name block)
weighs (recovery_row m d t e f) = omega (arith, past_ensure m, weighs d, past t, weighs e, weighs f)
weighs (alternates_row d e) = omega (arith, weighs d, weighs e)
weighs (alternate_row t d u) = omega (arith, past t, weighs d, past u)
weighs (other_alternates_row d e) = omega (arith, weighs d, weighs e)
weighs (error_row t u) = omega (arith, past t, past u)
weighs (items_row d e) = omega (arith, weighs d, weighs e)
weighs no_item_row = omega arith
weighs (more_items_row t d e) = omega (arith, past t, weighs d, weighs e)
weighs (text_row t) = omega (arith, past_text t)
weighs (amount_row s d) = weighs d
weighs no_argument_row = omega arith
weighs (arguments_row d) = weighs d
weighs (expressions_row d e) = omega (arith, weighs d, weighs e)
weighs no_more_expression_row = omega arith
weighs (more_expressions_row t d e) = omega (arith, past t, weighs d, weighs e)
weighs (expression_row d) = weighs d
weighs (quantified_row {name = name} q n t d u e v f) =
    omega (arith, past_quantifier q, past_name n, size_some name.text, past t, weighs d, past u, weighs e, past v, weighs f)
weighs (chain_row {first = first} {links = links} d e) = omega (arith, weighs d, weighs e, chain_weight first links)
weighs no_link_row = omega arith
weighs (links_row o d e) = omega (arith, past_operator o, weighs d, weighs e)
weighs (disjunct_row d) = weighs d
weighs (conjunct_row d) = weighs d
weighs (term_row d) = weighs d
weighs (factor_row d) = weighs d
weighs (not_row t d) = omega (arith, past t, weighs d)
weighs (no_not_row d) = weighs d
weighs (comparison_row {left = left} {links = links} d e) = omega (arith, weighs d, weighs e, chain_weight left links)
weighs not_compared_row = omega arith
weighs (compared_row o d) = omega (arith, past_comparison o, weighs d)
weighs (minus_row t d) = omega (arith, past t, weighs d)
weighs (no_minus_row d) = weighs d
weighs (literal_row d) = weighs d
weighs (variable_row d) = weighs d
weighs (prior_row w d) = omega (arith, past_at w, weighs d)
weighs (brackets_row t d u) = omega (arith, past t, weighs d, past u)
weighs (place_row {name = name} n d) = omega (arith, past_name n, size_some name.text, weighs d)
weighs no_subscript_row = omega arith
weighs (subscript_row t d u) = omega (arith, past t, weighs d, past u)
weighs (number_row i) = omega (arith, past_number i)

-- A tree weighs no more than its source is long, where that is no longer than it may be.
pub weighs_no_more : (source : List ℕ) (tree : Tree) → length source ≤ MOST_BYTES → HasTree source tree → weight tree ≤ length source
weighs_no_more source tree short has =
    let fits = total_fits source has.tokens (AtEnd has.at) short has.cut in let derived = weighs has.derived.derived in omega arith
