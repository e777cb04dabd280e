-- How a derived part begins: with a token that the table has for it, or it has no tokens.
use Rattle.std.proofs.Common.{◌≡◌, Bool, true, false, cond, Option, Some, None, ◌⊎◌, inl, inr, refl, ap, ◌∙◌}
use Rattle.std.proofs.lemmas.Bool.{false≢true}
use Rattle.std.specs.Option.{is_some}
use Rattle.rb_base.specs.declared.edition.Edition.{Edition}
use Rattle.rb_base.specs.declared.edition.Edition.TheVariants as editions
use Rattle.rb_grammar.specs.declared.level.Level.{Level}
use Rattle.rb_grammar.specs.declared.terminal.Terminal.{Terminal}
use Rattle.rb_grammar.specs.declared.terminal.Terminal.TheVariants as terminals
use Rattle.rb_grammar.specs.ExpressionTable.{begin, nothing_after, variable_after, literal_after, chain_after, compared_after}
use Rattle.rb_grammar.specs.ExpressionTable.{start_number, start_place, start_atom, start_factor, start_link, start_product}
use Rattle.rb_grammar.specs.ExpressionTable.{start_comparison, start_compared, start_negation, start_operand, start_sum}
use Rattle.rb_grammar.specs.ExpressionTable.{start_conjunction, start_disjunction, start_expression}
use Rattle.rb_grammar.specs.Grammar.{Point, Takes, TakesName, TakesNumber, TakesText, TakesEnsure, Derives, first_edition_row}
use Rattle.rb_grammar.specs.Grammar.{second_edition_row, program_row, no_connection_row, channels_row, conversations_row}
use Rattle.rb_grammar.specs.Grammar.{channel_row, conversation_row, names_row, no_name_row, more_names_row, processes_row}
use Rattle.rb_grammar.specs.Grammar.{no_process_row, more_processes_row, process_row, no_procedure_row, procedures_row}
use Rattle.rb_grammar.specs.Grammar.{procedure_row, no_parameter_row, parameters_row, no_declaration_row, declarations_row}
use Rattle.rb_grammar.specs.Grammar.{declaration_row, no_size_row, size_row, block_row, no_statement_row, statements_row}
use Rattle.rb_grammar.specs.Grammar.{assignment_row, print_row, send_row, receive_row, waits_row, never_waits_row, if_row}
use Rattle.rb_grammar.specs.Grammar.{no_else_row, else_row, while_row, call_row, fail_row, recover_row, converse_row}
use Rattle.rb_grammar.specs.Grammar.{recovery_row, alternates_row, alternate_row, other_alternates_row, error_row, items_row}
use Rattle.rb_grammar.specs.Grammar.{no_item_row, more_items_row, text_row, amount_row, no_argument_row, arguments_row}
use Rattle.rb_grammar.specs.Grammar.{expressions_row, no_more_expression_row, more_expressions_row, expression_row}
use Rattle.rb_grammar.specs.Grammar.{quantified_row, chain_row, no_link_row, links_row, disjunct_row, conjunct_row, term_row}
use Rattle.rb_grammar.specs.Grammar.{factor_row, not_row, no_not_row, comparison_row, not_compared_row, compared_row, minus_row}
use Rattle.rb_grammar.specs.Grammar.{no_minus_row, literal_row, variable_row, prior_row, brackets_row, place_row}
use Rattle.rb_grammar.specs.Grammar.{no_subscript_row, subscript_row, number_row}
use Rattle.rb_grammar.specs.Machine.{fits, look}
use Rattle.rb_grammar.specs.Operators.{operator, comparison, quantifier}
use Rattle.rb_grammar.specs.Parts.{Part}
use Rattle.rb_grammar.specs.StatementTable.{amount_after, items_after, expressions_after, alternates_after, declarations_after}
use Rattle.rb_grammar.specs.StatementTable.{assignment_after, recovering_after, statements_after, start_item, start_alternate}
use Rattle.rb_grammar.specs.StatementTable.{start_recovery, start_declaration, start_statement}
use Rattle.rb_grammar.specs.Table.{Start, channels_after, conversations_after, procedures_after, processes_after, start_channel}
use Rattle.rb_grammar.specs.Table.{start_conversation, start_procedure, start_process, start_unmarked, start, empty}
use Rattle.rb_grammar.specs.Terminals.{number_terminal}
use Rattle.rb_grammar.proofs.Accepting.Forms.{begin_some, atom_place, atom_number, factor_atom, negation_comparison, expression_chain}
use Rattle.rb_grammar.proofs.Accepting.Forms.{item_amount, statement_recovery, statement_place, other_alternate, connections_channel}
use Rattle.rb_grammar.proofs.Accepting.Forms.{connections_conversation, program_unmarked}
use Rattle.rb_grammar.proofs.Takes.{counts}
use Rattle.rb_syntax.specs.declared.expression.Quantifier.{Quantifier}
use Rattle.rb_syntax.specs.declared.expression.Op.{Op}
use Rattle.rb_syntax.specs.Tree.{Identifier, PrintItem}

-- a part without tokens may begin with none
abbrev pub OpensBy : {A : Type 0} → Option A → Type 0 → Type 0 → Type 0
OpensBy None begins none = begins
OpensBy (Some v) begins none = begins ⊎ none

abbrev pub Opens : Part → Point → Point → Type 0
Opens part a b = OpensBy (empty part) (is_some (start part (look a.left)) ≡ true) (a ≡ b)

-- what stands first where a token is taken
pub stands : {terminal : Terminal} {a b : Point} → Takes terminal a b → look a.left ≡ Some terminal
stands t = ap look t.stands ∙ t.fits

pub stands_name : {name : Identifier} {a b : Point} → TakesName name a b → look a.left ≡ Some terminals.Name
stands_name t = ap look t.stands ∙ t.fits

stands_text : {item : PrintItem} {a b : Point} → TakesText item a b → look a.left ≡ Some terminals.Text
stands_text t = ap look t.stands ∙ t.fits

stands_ensure : {number : _} {place : _} {a b : Point} → TakesEnsure number place a b → look a.left ≡ Some terminals.Ensure
stands_ensure t = ap look t.stands ∙ t.fits

stands_number : {number : _} {a b : Point} (t : TakesNumber number a b) → look a.left ≡ Some (number_terminal t.value)
stands_number t = ap look t.stands ∙ counts t

-- a choice among forms is made by what stands first
chosen : {A B : Type 0} (here : Start B) (begun : Start A) (rest : _ → A → _) → here ≡ begin begun rest → is_some begun ≡ true → is_some here ≡ true
chosen here begun rest e h = ap is_some e ∙ begin_some begun rest h

number_begins : (test : Bool) → is_some (start_number (Some (cond test terminals.Two terminals.Number))) ≡ true
number_begins true = refl
number_begins false = refl

link_begins : (level : Level) (op : Op) (found : Option Op) → found ≡ Some op → is_some (start_link level found) ≡ true
link_begins level op found e = ap (λ o. is_some (start_link level o)) e

compared_begins : (op : Op) (found : Option Op) → found ≡ Some op → is_some (start_compared found) ≡ true
compared_begins op found e = ap (λ o. is_some (start_compared o)) e

quantified_begins : (terminal : Terminal) (kind : Quantifier) → quantifier (Some terminal) ≡ Some kind →
    is_some (start_expression (Some terminal)) ≡ true
quantified_begins terminals.Every kind e = refl
quantified_begins terminals.Some kind e = refl
quantified_begins terminals.Sum kind e = refl
quantified_begins _ kind e = absurd cc

pub atom_is_no_minus : (first : Option Terminal) → is_some (start_atom first) ≡ true → fits first terminals.Minus ≡ false
atom_is_no_minus (Some terminals.Minus) e = absurd cc
atom_is_no_minus _ e = refl

pub comparison_is_no_not : (first : Option Terminal) → is_some (start_comparison first) ≡ true → fits first terminals.Not ≡ false
comparison_is_no_not (Some terminals.Not) e = absurd (false≢true e)
comparison_is_no_not _ e = refl

pub chain_is_no_quantifier : (first : Option Terminal) → is_some (start_disjunction first) ≡ true → quantifier first ≡ None
chain_is_no_quantifier (Some terminals.Every) e = absurd (false≢true e)
chain_is_no_quantifier (Some terminals.Some) e = absurd (false≢true e)
chain_is_no_quantifier (Some terminals.Sum) e = absurd (false≢true e)
chain_is_no_quantifier _ e = refl

pub expression_is_no_text : (first : Option Terminal) → is_some (start_expression first) ≡ true → fits first terminals.Text ≡ false
expression_is_no_text (Some terminals.Text) e = absurd (false≢true e)
expression_is_no_text _ e = refl

pub unmarked_is_no_edition : (first : Option Terminal) → is_some (start_unmarked editions.First first) ≡ true → fits first terminals.Edition ≡ false
unmarked_is_no_edition (Some terminals.Edition) e = absurd cc
unmarked_is_no_edition _ e = refl

by_word : {terminal : Terminal} (part : Part) {a b : Point} → Takes terminal a b → is_some (start part (Some terminal)) ≡ true →
    is_some (start part (look a.left)) ≡ true
by_word part t e = ap (λ first. is_some (start part first)) (stands t) ∙ e

receipt_begins : (edition : Edition) → is_some (start (Part.ReceiptEnd edition) (Some terminals.Semicolon)) ≡ true
receipt_begins editions.First = refl
receipt_begins editions.Second = refl

pub opens : {part : Part} {v : _} {a b : Point} → Derives part v a b → Opens part a b
opens {a = a} (first_edition_row u) =
    chosen (start Part.Program (look a.left)) (start_unmarked editions.First (look a.left)) nothing_after
    (program_unmarked (look a.left) (unmarked_is_no_edition (look a.left) (opens u))) (opens u)
opens (second_edition_row t n s u) = by_word Part.Program t refl
opens (program_row {edition = edition} t n s k p e d) = by_word (Part.Unmarked edition) t refl
opens no_connection_row = inr refl
opens {a = a} (channels_row c o) =
    inl (chosen (start Part.Connections (look a.left)) (start_channel (look a.left)) channels_after
    (connections_channel (look a.left) (opens c)) (opens c))
opens {a = a} (conversations_row c o) =
    inl (chosen (start Part.Connections (look a.left)) (start_conversation (look a.left)) conversations_after
    (connections_conversation (look a.left) (opens c)) (opens c))
opens (channel_row t n f s u r w z x) = by_word Part.Channel t refl
opens (conversation_row t n o m z x) = by_word Part.Conversation t refl
opens (names_row n m) = ap (λ first. is_some (start Part.Names first)) (stands_name n)
opens no_name_row = inr refl
opens (more_names_row t n m) = inl (by_word Part.MoreNames t refl)
opens {a = a} (processes_row {edition = edition} p m) =
    begin_some (start_process edition (look a.left)) (processes_after edition) (opens p)
opens no_process_row = inr refl
opens {a = a} (more_processes_row {edition = edition} p m) =
    inl (begin_some (start_process edition (look a.left)) (processes_after edition) (opens p))
opens (process_row {edition = edition} t n o v p m z) = by_word (Part.Process edition) t refl
opens no_procedure_row = inr refl
opens {a = a} (procedures_row {edition = edition} p m) =
    inl (begin_some (start_procedure edition (look a.left)) (procedures_after edition) (opens p))
opens (procedure_row {edition = edition} t n o p z v) = by_word (Part.Procedure edition) t refl
opens no_parameter_row = inr refl
opens {a = a} (parameters_row n) = inl (begin_some (start Part.Names (look a.left)) nothing_after (opens n))
opens no_declaration_row = inr refl
opens {a = a} (declarations_row d m) = inl (begin_some (start_declaration (look a.left)) declarations_after (opens d))
opens (declaration_row t n z s) = by_word Part.Declaration t refl
opens no_size_row = inr refl
opens (size_row t n z) = inl (by_word Part.Size t refl)
opens (block_row {edition = edition} t v m z) = by_word (Part.Block edition) t refl
opens no_statement_row = inr refl
opens {a = a} (statements_row {edition = edition} d m) =
    inl (begin_some (start_statement edition (look a.left)) (statements_after edition) (opens d))
opens {a = a} (assignment_row {edition = edition} p t e s) =
    chosen (start_statement edition (look a.left)) (start_place (look a.left)) assignment_after
    (statement_place edition (look a.left) (opens p)) (opens p)
opens (print_row {edition = edition} t i s) = by_word (Part.Statement edition) t refl
opens (send_row {edition = edition} t n v s) = by_word (Part.Statement edition) t refl
opens (receive_row {edition = edition} t n p o) = by_word (Part.Statement edition) t refl
opens (waits_row {edition = edition} t) = by_word (Part.ReceiptEnd edition) t (receipt_begins edition)
opens (never_waits_row t v) = by_word (Part.ReceiptEnd editions.Second) t refl
opens (if_row {edition = edition} t e v o) = by_word (Part.Statement edition) t refl
opens no_else_row = inr refl
opens (else_row {edition = edition} t v) = inl (by_word (Part.OptionalElse edition) t refl)
opens (while_row {edition = edition} t e v) = by_word (Part.Statement edition) t refl
opens (call_row {edition = edition} t n o g z s) = by_word (Part.Statement edition) t refl
opens (fail_row {edition = edition} t s) = by_word (Part.Statement edition) t refl
opens {a = a} (recover_row {edition = edition} r) =
    chosen (start_statement edition (look a.left)) (start_recovery edition (look a.left)) recovering_after
    (statement_recovery edition (look a.left) (opens r)) (opens r)
opens (converse_row {edition = edition} t n r) = by_word (Part.Statement edition) t refl
opens (recovery_row {edition = edition} t e w n o) =
    ap (λ first. is_some (start (Part.Recovery edition) first)) (stands_ensure t)
opens {a = a} (alternates_row {edition = edition} f o) =
    begin_some (start_alternate edition (look a.left)) (alternates_after edition) (opens f)
opens (alternate_row {edition = edition} t v x) = by_word (Part.Alternate edition) t refl
opens {a = a} (other_alternates_row {edition = edition} f o) =
    chosen (start (Part.OtherAlternates edition) (look a.left)) (start_alternate edition (look a.left)) (alternates_after edition)
    (other_alternate edition (look a.left) (opens f)) (opens f)
opens (error_row {edition = edition} t s) = by_word (Part.OtherAlternates edition) t refl
opens {a = a} (items_row i m) = begin_some (start_item (look a.left)) items_after (opens i)
opens no_item_row = inr refl
opens (more_items_row t i m) = inl (by_word Part.MoreItems t refl)
opens (text_row t) = ap (λ first. is_some (start Part.Item first)) (stands_text t)
opens {a = a} (amount_row s e) =
    chosen (start_item (look a.left)) (start_expression (look a.left)) amount_after
    (item_amount (look a.left) (expression_is_no_text (look a.left) (opens e))) (opens e)
opens no_argument_row = inr refl
opens {a = a} (arguments_row e) = inl (begin_some (start Part.Expressions (look a.left)) nothing_after (opens e))
opens {a = a} (expressions_row e m) = begin_some (start_expression (look a.left)) expressions_after (opens e)
opens no_more_expression_row = inr refl
opens (more_expressions_row t e m) = inl (by_word Part.MoreExpressions t refl)
opens {a = a} (expression_row d) =
    chosen (start_expression (look a.left)) (start_disjunction (look a.left)) nothing_after
    (expression_chain (look a.left) (chain_is_no_quantifier (look a.left) (opens d))) (opens d)
opens (quantified_row {kind = kind} q n f l t u x v) =
    ap (λ first. is_some (start_expression first)) (stands q.takes.takes) ∙ quantified_begins q.terminal kind q.is
opens {a = a} (chain_row {level = level} t m) = begin_some (start_operand level (look a.left)) (chain_after level) (opens t)
opens no_link_row = inr refl
opens {a = a} (links_row {level = level} {op = op} o t m) =
    inl (link_begins level op (operator (look a.left) level) (ap (λ first. operator first level) (stands o.takes) ∙ o.is))
opens {a = a} (disjunct_row d) = begin_some (start_conjunction (look a.left)) nothing_after (opens d)
opens {a = a} (conjunct_row d) = begin_some (start_negation (look a.left)) nothing_after (opens d)
opens {a = a} (term_row d) = begin_some (start_product (look a.left)) nothing_after (opens d)
opens {a = a} (factor_row d) = begin_some (start_factor (look a.left)) nothing_after (opens d)
opens (not_row t o) = by_word Part.Negation t refl
opens {a = a} (no_not_row d) =
    chosen (start_negation (look a.left)) (start_comparison (look a.left)) nothing_after
    (negation_comparison (look a.left) (comparison_is_no_not (look a.left) (opens d))) (opens d)
opens {a = a} (comparison_row t m) = begin_some (start_sum (look a.left)) compared_after (opens t)
opens not_compared_row = inr refl
opens {a = a} (compared_row {op = op} o t) =
    inl (compared_begins op (comparison (look a.left)) (ap comparison (stands o.takes) ∙ o.is))
opens (minus_row t o) = by_word Part.Factor t refl
opens {a = a} (no_minus_row d) =
    chosen (start_factor (look a.left)) (start_atom (look a.left)) nothing_after
    (factor_atom (look a.left) (atom_is_no_minus (look a.left) (opens d))) (opens d)
opens {a = a} (literal_row n) =
    chosen (start_atom (look a.left)) (start_number (look a.left)) literal_after (atom_number (look a.left) (opens n)) (opens n)
opens {a = a} (variable_row p) =
    chosen (start_atom (look a.left)) (start_place (look a.left)) variable_after (atom_place (look a.left) (opens p)) (opens p)
opens (prior_row t p) = by_word Part.Atom t.takes refl
opens (brackets_row t e z) = by_word Part.Atom t refl
opens (place_row n s) = ap (λ first. is_some (start_place first)) (stands_name n)
opens no_subscript_row = inr refl
opens (subscript_row t e z) = inl (by_word Part.Subscript t refl)
opens (number_row t) = ap (λ first. is_some (start_number first)) (stands_number t) ∙ number_begins _
