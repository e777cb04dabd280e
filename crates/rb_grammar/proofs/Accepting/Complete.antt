-- The machine accepts what is derived: it reads each row of the grammar, where nothing that it would take too stands
-- behind it.
use Rattle.std.proofs.Common.{◌≡◌, ℕ, pos, Bool, true, false, cond, List, [], ◌∷◌, Some, None, refl, sym, ap, ◌∙◌}
use Rattle.std.specs.Option.{is_some}
use Rattle.std.specs.Ordering.{int_eq}
use Rattle.rb_base.specs.declared.place.Place.{Place}
use Rattle.rb_lex.specs.Tokens.{Lexeme}
use Rattle.rb_base.specs.declared.edition.Edition.{Edition}
use Rattle.rb_base.specs.declared.edition.Edition.TheVariants as editions
use Rattle.rb_grammar.specs.declared.level.Level.TheVariants as levels
use Rattle.rb_grammar.specs.declared.terminal.Terminal.{Terminal}
use Rattle.rb_grammar.specs.declared.terminal.Terminal.TheVariants as terminals
use Rattle.rb_grammar.specs.ExpressionTable.{nothing_after, variable_after, literal_after, chain_after, compared_after, quantified_after, start_link, start_compared}
use Rattle.rb_grammar.specs.Grammar.{Point, Takes, TakesNumber, TakesText, TakesEnsure, TakesQuantifier, StandsAt, Derives}
use Rattle.rb_grammar.specs.Grammar.{first_edition_row, second_edition_row, program_row, no_connection_row, channels_row}
use Rattle.rb_grammar.specs.Grammar.{conversations_row, channel_row, conversation_row, names_row, no_name_row, more_names_row}
use Rattle.rb_grammar.specs.Grammar.{processes_row, no_process_row, more_processes_row, process_row, no_procedure_row}
use Rattle.rb_grammar.specs.Grammar.{procedures_row, procedure_row, no_parameter_row, parameters_row, no_declaration_row}
use Rattle.rb_grammar.specs.Grammar.{declarations_row, declaration_row, no_size_row, size_row, block_row, no_statement_row}
use Rattle.rb_grammar.specs.Grammar.{statements_row, assignment_row, print_row, send_row, receive_row, waits_row, never_waits_row}
use Rattle.rb_grammar.specs.Grammar.{if_row, no_else_row, else_row, while_row, call_row, fail_row, recover_row, converse_row}
use Rattle.rb_grammar.specs.Grammar.{recovery_row, alternates_row, alternate_row, other_alternates_row, error_row, items_row}
use Rattle.rb_grammar.specs.Grammar.{no_item_row, more_items_row, text_row, amount_row, no_argument_row, arguments_row}
use Rattle.rb_grammar.specs.Grammar.{expressions_row, no_more_expression_row, more_expressions_row, expression_row}
use Rattle.rb_grammar.specs.Grammar.{quantified_row, chain_row, no_link_row, links_row, disjunct_row, conjunct_row, term_row}
use Rattle.rb_grammar.specs.Grammar.{factor_row, not_row, no_not_row, comparison_row, not_compared_row, compared_row, minus_row}
use Rattle.rb_grammar.specs.Grammar.{no_minus_row, literal_row, variable_row, prior_row, brackets_row, place_row}
use Rattle.rb_grammar.specs.Grammar.{no_subscript_row, subscript_row, number_row, joined, DerivesTree, start_of}
use Rattle.rb_grammar.specs.Laws.{HasOneTree}
use Rattle.rb_grammar.specs.Machine.{Accepted, names_after, blocks_after, run, whole, look, first_of, seen_at, Advances, Reads}
use Rattle.rb_grammar.specs.Operators.{operator, comparison, quantifier}
use Rattle.rb_grammar.specs.Parts.{Part}
use Rattle.rb_grammar.specs.Plans.{Value, Done}
use Rattle.rb_grammar.specs.StatementTable.{amount_at, amount_after, items_after, expressions_after, alternates_after}
use Rattle.rb_grammar.specs.StatementTable.{declarations_after, assignment_after, recovering_after, statements_after}
use Rattle.rb_grammar.specs.StatementTable.{start_more_items, start_more_expressions, start_declarations, start_optional_else}
use Rattle.rb_grammar.specs.StatementTable.{start_statements}
use Rattle.rb_grammar.specs.Table.{tree_with, channels_after, conversations_after, procedures_after, processes_after}
use Rattle.rb_grammar.specs.Table.{start_more_names, start_parameters, start_procedures, start_more_processes, start_connections}
use Rattle.rb_grammar.specs.Table.{start}
use Rattle.rb_grammar.proofs.Accepting.Ends.{goes_place, goes_sum, goes_operand, goes_expression, goes_on, between, neither, links_end}
use Rattle.rb_grammar.proofs.Accepting.Ends.{compared_ends, block_ends, receipt_ends, items_end, expressions_end, processes_end}
use Rattle.rb_grammar.proofs.Accepting.Ends.{procedures_end, statements_end_declarations, statements_end_procedures}
use Rattle.rb_grammar.proofs.Accepting.Ends.{statements_end_statement}
use Rattle.rb_grammar.proofs.Accepting.Forms.{is_none, atom_place, atom_number, factor_atom, negation_comparison, expression_chain}
use Rattle.rb_grammar.proofs.Accepting.Forms.{quantified_begun, item_amount, statement_recovery, statement_place, other_alternate}
use Rattle.rb_grammar.proofs.Accepting.Forms.{connections_channel, connections_conversation, program_unmarked}
use Rattle.rb_grammar.proofs.Accepting.Opens.{Opens, opens, stands, atom_is_no_minus, comparison_is_no_not, chain_is_no_quantifier, expression_is_no_text, unmarked_is_no_edition}
use Rattle.rb_grammar.proofs.Reaching.{starts, begins, begins_here, by_part, by_terminal, complete, same_value, passes}
use Rattle.rb_grammar.proofs.Made.{variable_with, channel_of, conversation_of, process_of, procedure_of}
use Rattle.rb_grammar.proofs.Accepting.Running.{run_done}
use Rattle.rb_grammar.proofs.Accepting.Sound.{operator_names, operator_blocks, comparison_names, comparison_blocks}
use Rattle.rb_grammar.proofs.Takes.{name_taken, number_taken, two_taken, number_is, counts}
use Rattle.rb_syntax.specs.declared.expression.Number.{Number}
use Rattle.rb_syntax.specs.declared.expression.Quantifier.{Quantifier}
use Rattle.rb_syntax.specs.Tree.{Expression, Former, Quantification, Refer, Scalar, NoLink, NoCommand, Sending, Receiving, Invocation, Recovering, NoElse, Recovers, RecoveryBlock, Alternates, Tree}

taken : {terminal : Terminal} {a b : Point} (t : Takes terminal a b) → names_after (Some terminal) a.names ≡ a.names →
    blocks_after (Some terminal) a.blocks ≡ a.blocks → Advances terminal t.token a b
taken t n m = record { stands = t.stands; is = t.fits; names = t.names ∙ sym n; blocks = t.blocks ∙ sym m }

text_taken : {a b : Point} {item : _} (t : TakesText item a b) → Advances terminals.Text t.token a b
text_taken t = record { stands = t.stands; is = t.fits; names = t.names; blocks = t.blocks }

ensure_taken : {a b : Point} {number : _} {place : _} (t : TakesEnsure number place a b) → Advances terminals.Ensure t.token a b
ensure_taken t = record { stands = t.stands; is = t.fits; names = t.names; blocks = t.blocks }

stands_at_first : {place : Place} {a : Point} (s : StandsAt place a) → (seen_at a).token.place ≡ place
stands_at_first s = ap (λ left. (first_of left).place) s.stands ∙ sym s.is

-- the machine reads a number, two or another
pub number_read : {number : Number} {a b : Point} (t : TakesNumber number a b) (test : Bool) → int_eq t.value (pos 2) ≡ test →
    Reads Part.Number number a b
number_read t true e =
    same_value (sym (number_is t)) (complete (starts _ refl (two_taken t (counts t ∙ ap (λ x. Some (cond x terminals.Two terminals.Number)) e))))
number_read t false e =
    same_value (sym (number_is t)) (complete (starts _ refl (number_taken t (counts t ∙ ap (λ x. Some (cond x terminals.Two terminals.Number)) e))))

quantifier_names : (terminal : Terminal) (kind : Quantifier) (n : ℕ) → quantifier (Some terminal) ≡ Some kind → names_after (Some terminal) n ≡ n
quantifier_names terminals.Name kind n e = absurd cc
quantifier_names _ kind n e = refl

quantifier_blocks : (terminal : Terminal) (kind : Quantifier) (n : ℕ) → quantifier (Some terminal) ≡ Some kind → blocks_after (Some terminal) n ≡ n
quantifier_blocks terminals.Ensure kind n e = absurd cc
quantifier_blocks _ kind n e = refl

quantifier_taken : {kind : Quantifier} {place : Place} {a b : Point} (q : TakesQuantifier kind place a b) →
    Advances q.terminal q.takes.takes.token a b
quantifier_taken {kind = kind} {a = a} q = taken q.takes.takes (quantifier_names q.terminal kind a.names q.is)
    (quantifier_blocks q.terminal kind a.blocks q.is)

-- a recovery block by its number and its place
abbrev recovers : Expression → Number → Alternates → ℕ → Place → RecoveryBlock
recovers test bound alternates number place = Recovers number None place test bound alternates

-- whether each part of a process would take the first token of the next
declarations_over : (edition : Edition) (e f g : Point) → Opens (Part.Procedures edition) e f →
    Opens (Part.Statements edition) f g → look g.left ≡ Some terminals.CloseBrace →
    is_some (start_declarations (look e.left)) ≡ false
declarations_over edition e f g p m z =
    between (λ first. is_some (start_procedures edition first)) (λ first. is_some (start_declarations first)) e f
    (procedures_end edition) p (between (λ first. is_some (start_statements edition first))
    (λ first. is_some (start_declarations first)) f g (statements_end_declarations edition) m
    (ap (λ first. is_some (start_declarations first)) z))

pub reads : {part : Part} {v : Value part} {a b : Point} → Derives part v a b → goes_on part (look b.left) ≡ false → Reads part v a b
reads {a = a} (first_edition_row u) g =
    complete (by_part (begins (Part.Unmarked editions.First) a nothing_after
    (program_unmarked (look a.left) (unmarked_is_no_edition (look a.left) (opens u))) refl refl) (reads u refl))
reads (second_edition_row t n s u) g =
    complete (by_part (by_terminal (by_terminal (starts _ refl (taken t refl refl)) (taken n refl refl)) (taken s refl refl)) (reads u refl))
reads (program_row {edition = edition} {e = e} {connections = connections} {processes = processes} t n s k p x z) g =
    let headed = by_terminal (by_terminal (starts _ refl (taken t refl refl)) (name_taken n)) (taken s refl refl) in
    let connected = by_part headed (reads k (processes_end edition (look e.left) (opens p))) in
    let filled = by_part connected (reads p (ap (λ first. is_some (start_more_processes edition first)) (stands x))) in
    let ended = by_terminal (by_terminal filled (taken x refl refl)) (taken z refl refl) in
    same_value (λ j. tree_with edition (sym n.is j) connections processes (sym z.names j) (sym z.blocks j)) (complete ended)
reads {a = a} no_connection_row g = passes ([], []) a (is_none (start_connections (look a.left)) g) refl
reads {a = a} (channels_row c o) g =
    complete (by_part (by_part (begins_here Part.Channel a channels_after (connections_channel (look a.left) (opens c)) (opens c))
    (reads c refl)) (reads o g))
reads {a = a} (conversations_row c o) g =
    complete (by_part (by_part (begins_here Part.Conversation a conversations_after
    (connections_conversation (look a.left) (opens c)) (opens c)) (reads c refl)) (reads o g))
reads (channel_row {size = size} t n f s u r w z x) g =
    let sent = by_terminal (by_terminal (by_terminal (starts _ refl (taken t refl refl)) (name_taken n)) (taken f refl refl)) (name_taken s) in
    let received = by_terminal (by_terminal (by_terminal sent (taken u refl refl)) (name_taken r)) (taken w refl refl) in
    same_value (λ j. channel_of size (sym n.is j) (sym s.is j) (sym r.is j))
    (complete (by_terminal (by_part received (reads z refl)) (taken x refl refl)))
reads (conversation_row {members = members} t n o m z x) g =
    let opened = by_terminal (by_terminal (starts _ refl (taken t refl refl)) (name_taken n)) (taken o refl refl) in
    let listed = by_part opened (reads m (ap (λ first. is_some (start_more_names first)) (stands z))) in
    same_value (ap (conversation_of members) (sym n.is)) (complete (by_terminal (by_terminal listed (taken z refl refl)) (taken x refl refl)))
reads (names_row {others = others} n m) g =
    same_value (ap (λ name. name ∷ others) (sym n.is)) (complete (by_part (starts _ refl (name_taken n)) (reads m g)))
reads {a = a} no_name_row g = passes [] a (is_none (start_more_names (look a.left)) g) refl
reads (more_names_row {others = others} t n m) g =
    same_value (ap (λ name. name ∷ others) (sym n.is)) (complete
    (by_part (by_terminal (starts _ refl (taken t refl refl)) (name_taken n)) (reads m g)))
reads {a = a} (processes_row {edition = edition} p m) g =
    complete (by_part (by_part (begins (Part.Process edition) a (processes_after edition) refl refl refl) (reads p refl)) (reads m g))
reads {a = a} (no_process_row {edition = edition}) g = passes [] a (is_none (start_more_processes edition (look a.left)) g) refl
reads {a = a} (more_processes_row {edition = edition} p m) g =
    complete (by_part (by_part (begins_here (Part.Process edition) a (processes_after edition) refl (opens p)) (reads p refl)) (reads m g))
reads (process_row {edition = edition} {e = e} {f = f} {g = h} {variables = variables} {procedures = procedures}
    {commands = commands} t n o v p m z) g =
    let opened = by_terminal (by_terminal (starts _ refl (taken t refl refl)) (name_taken n)) (taken o refl refl) in
    let declared = by_part opened (reads v (declarations_over edition e f h (opens p) (opens m) (stands z))) in
    let behind = between (λ first. is_some (start_statements edition first)) (λ first. is_some (start_procedures edition first)) f
    h (statements_end_procedures edition) (opens m) (ap (λ first. is_some (start_procedures edition first)) (stands z)) in
    let filled = by_part (by_part declared (reads p behind)) (reads m (ap (goes_on (Part.Statements edition)) (stands z))) in
    same_value (ap (process_of variables procedures commands) (sym n.is)) (complete (by_terminal filled (taken z refl refl)))
reads {a = a} (no_procedure_row {edition = edition}) g = passes [] a (is_none (start_procedures edition (look a.left)) g) refl
reads {a = a} (procedures_row {edition = edition} p m) g =
    complete (by_part (by_part (begins_here (Part.Procedure edition) a (procedures_after edition) refl (opens p)) (reads p refl)) (reads m g))
reads (procedure_row {parameters = parameters} {body = body} t n o p z v) g =
    let opened = by_terminal (by_terminal (starts _ refl (taken t refl refl)) (name_taken n)) (taken o refl refl) in
    let listed = by_part opened (reads p (ap (goes_on Part.Parameters) (stands z))) in
    same_value (ap (procedure_of parameters body) (sym n.is)) (complete (by_part (by_terminal listed (taken z refl refl)) (reads v refl)))
reads {a = a} no_parameter_row g = passes [] a (is_none (start_parameters (look a.left)) (neither _ _ g).0) refl
reads {a = a} (parameters_row n) g =
    complete (by_part (begins_here Part.Names a nothing_after refl (opens n)) (reads n (neither _ _ g).1))
reads {a = a} no_declaration_row g = passes [] a (is_none (start_declarations (look a.left)) g) refl
reads {a = a} (declarations_row d m) g =
    complete (by_part (by_part (begins_here Part.Declaration a declarations_after refl (opens d)) (reads d refl)) (reads m g))
reads (declaration_row {size = size} t n z s) g =
    let named = by_terminal (starts _ refl (taken t refl refl)) (name_taken n) in
    same_value (ap (variable_with size) (sym n.is)) (complete
    (by_terminal (by_part named (reads z (ap (goes_on Part.Size) (stands s)))) (taken s refl refl)))
reads {a = a} no_size_row g = passes None a (is_none (start Part.Size (look a.left)) g) refl
reads (size_row t n z) g =
    complete (by_terminal (by_part (starts _ refl (taken t refl refl)) (reads n refl)) (taken z refl refl))
reads (block_row {edition = edition} {c = c} {d = d} t v m z) g =
    let behind = between (λ first. is_some (start_statements edition first)) (λ first. is_some (start_declarations first)) c d
    (statements_end_declarations edition) (opens m) (ap (λ first. is_some (start_declarations first)) (stands z)) in
    let filled = by_part (by_part (starts _ refl (taken t refl refl)) (reads v behind))
    (reads m (ap (goes_on (Part.Statements edition)) (stands z))) in
    complete (by_terminal filled (taken z refl refl))
reads {a = a} (no_statement_row {edition = edition}) g =
    passes NoCommand a (is_none (start_statements edition (look a.left)) (neither _ _ g).0) refl
reads {a = a} {b = z} (statements_row {edition = edition} {b = b} d m) g =
    let behind = between (λ first. is_some (start_statements edition first))
    (λ first. is_some (start_optional_else edition first)) b z (statements_end_statement edition) (opens m) (neither _ _ g).1 in
    complete (by_part (by_part (begins_here (Part.Statement edition) a (statements_after edition) refl (opens d)) (reads d behind)) (reads m g))
reads {a = a} (assignment_row {edition = edition} p t e s) g =
    let placed = by_part (begins Part.Place a assignment_after (statement_place edition (look a.left) (opens p)) refl refl)
    (reads p (ap goes_place (stands t))) in
    complete (by_terminal (by_part (by_terminal placed (taken t refl refl)) (reads e (ap goes_expression (stands s)))) (taken s refl refl))
reads (print_row t i s) g =
    complete (by_terminal (by_part (starts _ refl (taken t refl refl)) (reads i (ap (goes_on Part.Items) (stands s)))) (taken s refl refl))
reads (send_row {value = value} t n v s) g =
    let named = by_terminal (starts _ refl (taken t refl refl)) (name_taken n) in
    same_value (ap (λ name. Sending name value) (sym n.is))
    (complete (by_terminal (by_part named (reads v (ap goes_expression (stands s)))) (taken s refl refl)))
reads (receive_row {edition = edition} {d = d} {to = to} {otherwise = otherwise} t n p o) g =
    let named = by_terminal (starts _ refl (taken t refl refl)) (name_taken n) in
    same_value (ap (λ name. Receiving name to otherwise) (sym n.is))
    (complete (by_part (by_part named (reads p (receipt_ends edition (look d.left) (opens o)))) (reads o refl)))
reads (waits_row {edition = editions.First} t) g = complete (starts _ refl (taken t refl refl))
reads (waits_row {edition = editions.Second} t) g = complete (starts _ refl (taken t refl refl))
reads (never_waits_row t v) g = complete (by_part (starts _ refl (taken t refl refl)) (reads v refl))
reads (if_row {edition = edition} {c = c} t e v o) g =
    let tested = by_part (starts _ refl (taken t refl refl)) (reads e (block_ends edition (look c.left) (opens v))) in
    complete (by_part (by_part tested (reads v refl)) (reads o g))
reads {a = a} (no_else_row {edition = edition}) g = passes NoElse a (is_none (start_optional_else edition (look a.left)) g) refl
reads (else_row t v) g = complete (by_part (starts _ refl (taken t refl refl)) (reads v refl))
reads (while_row {edition = edition} {c = c} t e v) g =
    complete (by_part (by_part (starts _ refl (taken t refl refl)) (reads e (block_ends edition (look c.left) (opens v)))) (reads v refl))
reads (call_row {arguments = arguments} t n o e z s) g =
    let opened = by_terminal (by_terminal (starts _ refl (taken t refl refl)) (name_taken n)) (taken o refl refl) in
    let listed = by_part opened (reads e (ap (goes_on Part.Arguments) (stands z))) in
    same_value (ap (λ name. Invocation name arguments) (sym n.is))
    (complete (by_terminal (by_terminal listed (taken z refl refl)) (taken s refl refl)))
reads (fail_row t s) g = complete (by_terminal (starts _ refl (taken t refl refl)) (taken s refl refl))
reads {a = a} (recover_row {edition = edition} r) g =
    complete (by_part (begins (Part.Recovery edition) a recovering_after (statement_recovery edition (look a.left) (opens r)) refl
    refl) (reads r refl))
reads (converse_row {block = block} t n r) g =
    same_value (ap (λ name. Recovering (joined name block)) (sym n.is))
    (complete (by_part (by_terminal (starts _ refl (taken t refl refl)) (name_taken n)) (reads r refl)))
reads (recovery_row {test = test} {bound = bound} {alternates = alternates} t e w n o) g =
    let tested = by_terminal (by_part (starts _ refl (ensure_taken t)) (reads e (ap goes_expression (stands w)))) (taken w refl refl) in
    same_value (λ j. recovers test bound alternates (sym t.is j) (sym t.at j)) (complete (by_part (by_part tested (reads n refl)) (reads o refl)))
reads {a = a} (alternates_row {edition = edition} f o) g =
    complete (by_part (by_part (begins (Part.Alternate edition) a (alternates_after edition) refl refl refl) (reads f refl)) (reads o refl))
reads (alternate_row t v x) g =
    complete (by_terminal (by_part (starts _ refl (taken t refl refl)) (reads v refl)) (taken x refl refl))
reads {a = a} (other_alternates_row {edition = edition} f o) g =
    complete (by_part (by_part (begins (Part.Alternate edition) a (alternates_after edition)
    (other_alternate edition (look a.left) (opens f)) refl refl) (reads f refl)) (reads o refl))
reads (error_row t s) g = complete (by_terminal (starts _ refl (taken t refl refl)) (taken s refl refl))
reads {a = a} {b = z} (items_row {b = b} i m) g =
    let behind = between (λ first. is_some (start_more_items first)) goes_expression b z items_end (opens m) (neither _ _ g).1 in
    complete (by_part (by_part (begins Part.Item a items_after refl refl refl) (reads i behind)) (reads m g))
reads {a = a} no_item_row g = passes [] a (is_none (start_more_items (look a.left)) (neither _ _ g).0) refl
reads {b = z} (more_items_row {c = c} t i m) g =
    let behind = between (λ first. is_some (start_more_items first)) goes_expression c z items_end (opens m) (neither _ _ g).1 in
    complete (by_part (by_part (starts _ refl (taken t refl refl)) (reads i behind)) (reads m g))
reads (text_row t) g = same_value (sym t.is) (complete (starts _ refl (text_taken t)))
reads {a = a} (amount_row {value = value} s e) g =
    same_value (ap (λ place. amount_at place value) (stands_at_first s))
    (complete (by_part (begins Part.Expression a amount_after
    (item_amount (look a.left) (expression_is_no_text (look a.left) (opens e))) refl refl) (reads e g)))
reads {a = a} no_argument_row g = passes [] a (is_none (start Part.Arguments (look a.left)) (neither _ _ g).0) refl
reads {a = a} (arguments_row e) g =
    complete (by_part (begins_here Part.Expressions a nothing_after refl (opens e)) (reads e (neither _ _ g).1))
reads {a = a} {b = z} (expressions_row {b = b} e m) g =
    let behind = between (λ first. is_some (start_more_expressions first)) goes_expression b z expressions_end (opens m) (neither _ _ g).1 in
    complete (by_part (by_part (begins Part.Expression a expressions_after refl refl refl) (reads e behind)) (reads m g))
reads {a = a} no_more_expression_row g = passes [] a (is_none (start_more_expressions (look a.left)) (neither _ _ g).0) refl
reads {b = z} (more_expressions_row {c = c} t e m) g =
    let behind = between (λ first. is_some (start_more_expressions first)) goes_expression c z expressions_end (opens m) (neither _ _ g).1 in
    complete (by_part (by_part (starts _ refl (taken t refl refl)) (reads e behind)) (reads m g))
reads {a = a} (expression_row d) g =
    complete (by_part (begins (Part.Chain levels.Disjunction) a nothing_after
    (expression_chain (look a.left) (chain_is_no_quantifier (look a.left) (opens d))) refl refl) (reads d g))
reads (quantified_row {kind = kind} {low = low} {high = high} {body = body} q n f l t u x v) g =
    let named = by_terminal (by_terminal (starts (quantified_after kind) (quantified_begun q.terminal kind q.is)
    (quantifier_taken q)) (name_taken n)) (taken f refl refl) in
    let ranged = by_part (by_terminal (by_part named (reads l (ap goes_sum (stands t)))) (taken t refl refl)) (reads u (ap goes_sum (stands x))) in
    same_value (λ j. Quantification kind (sym q.takes.is j) (sym n.is j) low high body)
    (complete (by_part (by_terminal ranged (taken x refl refl)) (reads v g)))
reads {a = a} {b = z} (chain_row {level = level} {b = b} t m) g =
    let behind = between (λ first. is_some (start_link level (operator first level))) (goes_operand level) b z (links_end level)
    (opens m) (neither _ _ g).1 in
    complete (by_part (by_part (begins (Part.Operand level) a (chain_after level) refl refl refl) (reads t behind)) (reads m g))
reads {a = a} (no_link_row {level = level}) g =
    passes NoLink a (ap (start_link level) (is_none (operator (look a.left) level) (neither _ _ g).0)) refl
reads {b = z} (links_row {level = level} {a = a} {c = c} {op = op} o t m) g =
    let behind = between (λ first. is_some (start_link level (operator first level))) (goes_operand level) c z (links_end level)
    (opens m) (neither _ _ g).1 in
    let begun = starts _ (ap (start_link level) o.is) (taken o.takes (operator_names o.terminal level op a.names o.is)
    (operator_blocks o.terminal level op a.blocks o.is)) in
    complete (by_part (by_part begun (reads t behind)) (reads m g))
reads {a = a} (disjunct_row d) g = complete (by_part (begins (Part.Chain levels.Conjunction) a nothing_after refl refl refl) (reads d g))
reads {a = a} (conjunct_row d) g = complete (by_part (begins Part.Negation a nothing_after refl refl refl) (reads d g))
reads {a = a} (term_row d) g = complete (by_part (begins (Part.Chain levels.Product) a nothing_after refl refl refl) (reads d g))
reads {a = a} (factor_row d) g = complete (by_part (begins Part.Factor a nothing_after refl refl refl) (reads d g))
reads (not_row t o) g = complete (by_part (starts _ refl (taken t refl refl)) (reads o g))
reads {a = a} (no_not_row d) g =
    complete (by_part (begins Part.Comparison a nothing_after
    (negation_comparison (look a.left) (comparison_is_no_not (look a.left) (opens d))) refl refl) (reads d g))
reads {a = a} {b = z} (comparison_row {b = b} t m) g =
    let behind = between (λ first. is_some (start_compared (comparison first))) goes_sum b z compared_ends (opens m) (neither _ _ g).1 in
    complete (by_part (by_part (begins (Part.Chain levels.Sum) a compared_after refl refl refl) (reads t behind)) (reads m g))
reads {a = a} not_compared_row g =
    passes NoLink a (ap start_compared (is_none (comparison (look a.left)) (neither _ _ g).0)) refl
reads {a = a} (compared_row {op = op} o t) g =
    let begun = starts _ (ap start_compared o.is) (taken o.takes (comparison_names o.terminal op a.names o.is)
    (comparison_blocks o.terminal op a.blocks o.is)) in
    complete (by_part begun (reads t (neither _ _ g).1))
reads (minus_row t o) g = complete (by_part (starts _ refl (taken t refl refl)) (reads o g))
reads {a = a} (no_minus_row d) g =
    complete (by_part (begins Part.Atom a nothing_after (factor_atom (look a.left) (atom_is_no_minus (look a.left) (opens d))) refl refl) (reads d g))
reads {a = a} (literal_row n) g =
    complete (by_part (begins Part.Number a literal_after (atom_number (look a.left) (opens n)) refl refl) (reads n refl))
reads {a = a} (variable_row p) g =
    complete (by_part (begins Part.Place a variable_after (atom_place (look a.left) (opens p)) refl refl) (reads p g))
reads (prior_row {reference = reference} t p) g =
    same_value (ap (λ place. Former place reference) (sym t.is)) (complete (by_part (starts _ refl (taken t.takes refl refl)) (reads p g)))
reads (brackets_row t e z) g =
    complete (by_terminal (by_part (starts _ refl (taken t refl refl)) (reads e (ap goes_expression (stands z)))) (taken z refl refl))
reads (place_row {subscript = subscript} n s) g =
    same_value (ap (λ name. Refer name subscript) (sym n.is)) (complete (by_part (starts _ refl (name_taken n)) (reads s g)))
reads {a = a} no_subscript_row g = passes Scalar a (is_none (start Part.Subscript (look a.left)) g) refl
reads (subscript_row t e z) g =
    complete (by_terminal (by_part (starts _ refl (taken t refl refl)) (reads e (ap goes_expression (stands z)))) (taken z refl refl))
reads (number_row t) g = number_read t (int_eq t.value (pos 2)) refl

-- a tree that a list of tokens derives is accepted
pub derived_accepted : (tree : Tree) (tokens : List Lexeme) → DerivesTree tree tokens → run whole (start_of tokens) ≡ Accepted tree
derived_accepted tree tokens d = (reads d.derived refl).leads (λ v. Done v) ∙ run_done tree d.end d.whole

pub one_tree : HasOneTree
one_tree tokens t u d e =
    let same : Accepted t ≡ Accepted u = sym (derived_accepted t tokens d) ∙ derived_accepted u tokens e in cc
