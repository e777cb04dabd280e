-- What one token does not change, or changes step by step, a derivation does not either.
use Rattle.std.proofs.Common.{◌≡◌, false, refl}
use Rattle.rb_base.specs.declared.place.Place.{Place}
use Rattle.rb_lex.specs.Tokens.{Lexeme}
use Rattle.rb_grammar.specs.declared.terminal.Terminal.{Terminal}
use Rattle.rb_grammar.specs.declared.terminal.Terminal.TheVariants as terminals
use Rattle.rb_grammar.specs.Grammar.{Point, Takes, TakesName, TakesEnsure, Derives, first_edition_row, second_edition_row}
use Rattle.rb_grammar.specs.Grammar.{program_row, no_connection_row, channels_row, conversations_row, channel_row}
use Rattle.rb_grammar.specs.Grammar.{conversation_row, names_row, no_name_row, more_names_row, processes_row, no_process_row}
use Rattle.rb_grammar.specs.Grammar.{more_processes_row, process_row, no_procedure_row, procedures_row, procedure_row}
use Rattle.rb_grammar.specs.Grammar.{no_parameter_row, parameters_row, no_declaration_row, declarations_row, declaration_row}
use Rattle.rb_grammar.specs.Grammar.{no_size_row, size_row, block_row, no_statement_row, statements_row, assignment_row}
use Rattle.rb_grammar.specs.Grammar.{print_row, send_row, receive_row, waits_row, never_waits_row, if_row, no_else_row, else_row}
use Rattle.rb_grammar.specs.Grammar.{while_row, call_row, fail_row, recover_row, converse_row, recovery_row, alternates_row}
use Rattle.rb_grammar.specs.Grammar.{alternate_row, other_alternates_row, error_row, items_row, no_item_row, more_items_row}
use Rattle.rb_grammar.specs.Grammar.{text_row, amount_row, no_argument_row, arguments_row, expressions_row}
use Rattle.rb_grammar.specs.Grammar.{no_more_expression_row, more_expressions_row, expression_row, quantified_row, chain_row}
use Rattle.rb_grammar.specs.Grammar.{no_link_row, links_row, disjunct_row, conjunct_row, term_row, factor_row, not_row}
use Rattle.rb_grammar.specs.Grammar.{no_not_row, comparison_row, not_compared_row, compared_row, minus_row, no_minus_row}
use Rattle.rb_grammar.specs.Grammar.{literal_row, variable_row, prior_row, brackets_row, place_row, no_subscript_row}
use Rattle.rb_grammar.specs.Grammar.{subscript_row, number_row}
use Rattle.rb_grammar.specs.Machine.{Advances}
use Rattle.rb_grammar.specs.Parts.{Part}
use Rattle.rb_grammar.specs.Values.{Value}
use Rattle.rb_grammar.proofs.Numbering.Steps.{is_numbered, Passes, advances, ensure_taken, passes, passes_number, passes_text, passes_operator, passes_comparison, passes_quantifier}
use Rattle.rb_grammar.proofs.Takes.{name_taken}
use Rattle.rb_syntax.specs.Tree.{Identifier}

-- a relation of points that holds over each token, over none, and over two ways in turn
module _ (R : Point → Point → Type 0) (none : (a : Point) → R a a) (both : (a b c : Point) → R a b → R b c → R a c)
    (token : (terminal : Terminal) (token : Lexeme) (a b : Point) → Advances terminal token a b → R a b) where
  then : {a b c : Point} → R a b → R b c → R a c
  then {a} {b} {c} r s = both a b c r s

  over : {a b : Point} → Passes a b → R a b
  over {a} {b} t = token t.terminal t.token a b (advances t)

  past : {terminal : Terminal} {a b : Point} → Takes terminal a b → is_numbered terminal ≡ false → R a b
  past t e = over (passes t e)

  past_name : {name : Identifier} {a b : Point} → TakesName name a b → R a b
  past_name {a = a} {b = b} t = token terminals.Name t.token a b (name_taken t)

  past_ensure : {number : _} {place : Place} {a b : Point} → TakesEnsure number place a b → R a b
  past_ensure {a = a} {b = b} t = token terminals.Ensure t.token a b (ensure_taken t)

  pub travels : {part : Part} {value : Value part} {a b : Point} → Derives part value a b → R a b
  travels (first_edition_row d) = travels d
  travels (second_edition_row t u v d) = then (past t refl) (then (past u refl) (then (past v refl) (travels d)))
  travels (program_row t n u d e v w) = then (past t refl) (then (past_name n)
      (then (past u refl) (then (travels d) (then (travels e) (then (past v refl) (past w refl))))))
  travels {a = a} no_connection_row = none a
  travels (channels_row d e) = then (travels d) (travels e)
  travels (conversations_row d e) = then (travels d) (travels e)
  travels (channel_row t n u m v k w d x) = then (past t refl)
      (then (past_name n) (then (past u refl) (then (past_name m)
      (then (past v refl) (then (past_name k) (then (past w refl) (then (travels d) (past x refl))))))))
  travels (conversation_row t n u d v w) = then (past t refl)
      (then (past_name n) (then (past u refl) (then (travels d) (then (past v refl) (past w refl)))))
  travels (names_row n d) = then (past_name n) (travels d)
  travels {a = a} no_name_row = none a
  travels (more_names_row t n d) = then (past t refl) (then (past_name n) (travels d))
  travels (processes_row d e) = then (travels d) (travels e)
  travels {a = a} no_process_row = none a
  travels (more_processes_row d e) = then (travels d) (travels e)
  travels (process_row t n u d e f v) = then (past t refl) (then (past_name n)
      (then (past u refl) (then (travels d) (then (travels e) (then (travels f) (past v refl))))))
  travels {a = a} no_procedure_row = none a
  travels (procedures_row d e) = then (travels d) (travels e)
  travels (procedure_row t n u d v e) = then (past t refl) (then (past_name n)
      (then (past u refl) (then (travels d) (then (past v refl) (travels e)))))
  travels {a = a} no_parameter_row = none a
  travels (parameters_row d) = travels d
  travels {a = a} no_declaration_row = none a
  travels (declarations_row d e) = then (travels d) (travels e)
  travels (declaration_row t n d u) = then (past t refl) (then (past_name n) (then (travels d) (past u refl)))
  travels {a = a} no_size_row = none a
  travels (size_row t d u) = then (past t refl) (then (travels d) (past u refl))
  travels (block_row t d e u) = then (past t refl) (then (travels d) (then (travels e) (past u refl)))
  travels {a = a} no_statement_row = none a
  travels (statements_row d e) = then (travels d) (travels e)
  travels (assignment_row d t e u) = then (travels d) (then (past t refl) (then (travels e) (past u refl)))
  travels (print_row t d u) = then (past t refl) (then (travels d) (past u refl))
  travels (send_row t n d u) = then (past t refl) (then (past_name n) (then (travels d) (past u refl)))
  travels (receive_row t n d e) = then (past t refl) (then (past_name n) (then (travels d) (travels e)))
  travels (waits_row t) = past t refl
  travels (never_waits_row t d) = then (past t refl) (travels d)
  travels (if_row t d e f) = then (past t refl) (then (travels d) (then (travels e) (travels f)))
  travels {a = a} no_else_row = none a
  travels (else_row t d) = then (past t refl) (travels d)
  travels (while_row t d e) = then (past t refl) (then (travels d) (travels e))
  travels (call_row t n u d v w) = then (past t refl) (then (past_name n) (then (past u refl) (then (travels d) (then (past v refl) (past w refl)))))
  travels (fail_row t u) = then (past t refl) (past u refl)
  travels (recover_row d) = travels d
  travels (converse_row t n d) = then (past t refl) (then (past_name n) (travels d))
  travels (recovery_row m d t e f) = then (past_ensure m) (then (travels d) (then (past t refl) (then (travels e) (travels f))))
  travels (alternates_row d e) = then (travels d) (travels e)
  travels (alternate_row t d u) = then (past t refl) (then (travels d) (past u refl))
  travels (other_alternates_row d e) = then (travels d) (travels e)
  travels (error_row t u) = then (past t refl) (past u refl)
  travels (items_row d e) = then (travels d) (travels e)
  travels {a = a} no_item_row = none a
  travels (more_items_row t d e) = then (past t refl) (then (travels d) (travels e))
  travels (text_row t) = over (passes_text t)
  travels (amount_row s d) = travels d
  travels {a = a} no_argument_row = none a
  travels (arguments_row d) = travels d
  travels (expressions_row d e) = then (travels d) (travels e)
  travels {a = a} no_more_expression_row = none a
  travels (more_expressions_row t d e) = then (past t refl) (then (travels d) (travels e))
  travels (expression_row d) = travels d
  travels (quantified_row q n t d u e v f) = then (over (passes_quantifier q))
      (then (past_name n) (then (past t refl) (then (travels d)
      (then (past u refl) (then (travels e) (then (past v refl) (travels f)))))))
  travels (chain_row d e) = then (travels d) (travels e)
  travels {a = a} no_link_row = none a
  travels (links_row o d e) = then (over (passes_operator o)) (then (travels d) (travels e))
  travels (disjunct_row d) = travels d
  travels (conjunct_row d) = travels d
  travels (term_row d) = travels d
  travels (factor_row d) = travels d
  travels (not_row t d) = then (past t refl) (travels d)
  travels (no_not_row d) = travels d
  travels (comparison_row d e) = then (travels d) (travels e)
  travels {a = a} not_compared_row = none a
  travels (compared_row o d) = then (over (passes_comparison o)) (travels d)
  travels (minus_row t d) = then (past t refl) (travels d)
  travels (no_minus_row d) = travels d
  travels (literal_row d) = travels d
  travels (variable_row d) = travels d
  travels (prior_row w d) = then (past w.takes refl) (travels d)
  travels (brackets_row t d u) = then (past t refl) (then (travels d) (past u refl))
  travels (place_row n d) = then (past_name n) (travels d)
  travels {a = a} no_subscript_row = none a
  travels (subscript_row t d u) = then (past t refl) (then (travels d) (past u refl))
  travels (number_row i) = over (passes_number i)
