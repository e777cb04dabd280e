-- What the machine accepts is derived: programs, and so each part.
use Rattle.std.proofs.Common.{Option, Some, None}
use Rattle.rb_lex.specs.Tokens.{Lexeme}
use Rattle.rb_base.specs.declared.edition.Edition.{Edition}
use Rattle.rb_base.specs.declared.edition.Edition.TheVariants as editions
use Rattle.rb_grammar.specs.declared.terminal.Terminal.{Terminal}
use Rattle.rb_grammar.specs.declared.terminal.Terminal.TheVariants as terminals
use Rattle.rb_grammar.specs.ExpressionTable.{nothing_after, name_of}
use Rattle.rb_grammar.specs.Grammar.{Point, Derives, first_edition_row, second_edition_row, program_row, no_connection_row}
use Rattle.rb_grammar.specs.Grammar.{channels_row, conversations_row, channel_row, conversation_row, names_row, no_name_row}
use Rattle.rb_grammar.specs.Grammar.{more_names_row, processes_row, no_process_row, more_processes_row, process_row}
use Rattle.rb_grammar.specs.Grammar.{no_procedure_row, procedures_row, procedure_row, no_parameter_row, parameters_row}
use Rattle.rb_grammar.specs.Grammar.{no_declaration_row, no_size_row, no_statement_row, no_else_row, no_item_row, no_argument_row}
use Rattle.rb_grammar.specs.Grammar.{no_more_expression_row, no_link_row, not_compared_row, no_subscript_row}
use Rattle.rb_grammar.specs.Parts.{Part}
use Rattle.rb_grammar.specs.Plans.{Value}
use Rattle.rb_grammar.specs.Table.{tree_with, channels_after, conversations_after, procedures_after, processes_after, start_names}
use Rattle.rb_grammar.specs.Table.{start_more_names, start_parameters, start_procedure, start_procedures, start_process}
use Rattle.rb_grammar.specs.Table.{start_processes, start_more_processes, start_channel, start_conversation, start_connections}
use Rattle.rb_grammar.specs.Table.{start_unmarked, start_program, start, empty}
use Rattle.rb_grammar.proofs.Reaching.{seen_from}
use Rattle.rb_grammar.proofs.Accepting.Sound.{Forms, Passes, advanced, plain, passed, named, ended, then_rest, number_sound}
use Rattle.rb_grammar.proofs.Accepting.Sound.{subscript_sound, place_sound, atom_sound, factor_sound, link_sound, chain_sound}
use Rattle.rb_grammar.proofs.Accepting.Sound.{operand_sound, comparison_sound, compared_sound, negation_sound, expression_sound}
use Rattle.rb_grammar.proofs.Accepting.StatementsSound.{item_sound, items_sound, more_items_sound, arguments_sound, expressions_sound}
use Rattle.rb_grammar.proofs.Accepting.StatementsSound.{more_expressions_sound, size_sound, declaration_sound, declarations_sound}
use Rattle.rb_grammar.proofs.Accepting.StatementsSound.{block_sound, optional_else_sound, receipt_end_sound, alternates_sound}
use Rattle.rb_grammar.proofs.Accepting.StatementsSound.{alternate_sound, other_alternates_sound, recovery_sound, statement_sound}
use Rattle.rb_grammar.proofs.Accepting.StatementsSound.{statements_sound}

module _ (token : Lexeme) (a b : Point) where
  more_names_sound : (first : Option Terminal) → Passes first token a b → Forms Part.MoreNames (start_more_names first) token a b
  more_names_sound (Some terminals.Comma) h = λ name c n others d m. more_names_row (passed h h.names h.blocks) (named n) m
  more_names_sound _ h = tt

  names_sound : (first : Option Terminal) → Passes first token a b → Forms Part.Names (start_names first) token a b
  names_sound (Some terminals.Name) h = λ others c m. names_row (named (advanced h)) m
  names_sound _ h = tt

  parameters_sound : (first : Option Terminal) → Passes first token a b → Forms Part.Parameters (start_parameters first) token a b
  parameters_sound first h =
      then_rest token a b Part.Parameters Part.Names (start_names first) nothing_after (names_sound first h) (λ v c n. parameters_row n)

  channel_sound : (first : Option Terminal) → Passes first token a b → Forms Part.Channel (start_channel first) token a b
  channel_sound (Some terminals.Channel) h =
      λ name c n from d f sender e s to g t receiver i r word j w size k z semicolon l x. channel_row (passed h h.names h.blocks)
      (named n) (plain f f.names f.blocks) (named s) (plain t t.names t.blocks) (named r) (plain w w.names w.blocks) z
      (plain x x.names x.blocks)
  channel_sound _ h = tt

  conversation_sound : (first : Option Terminal) → Passes first token a b → Forms Part.Conversation (start_conversation first) token a b
  conversation_sound (Some terminals.Conversation) h =
      λ name c n bracket d o members e m close i z semicolon j x. conversation_row (passed h h.names h.blocks) (named n)
      (plain o o.names o.blocks) m (plain z z.names z.blocks) (plain x x.names x.blocks)
  conversation_sound _ h = tt

  connections_sound : (first : Option Terminal) → Passes first token a b → Forms Part.Connections (start_connections first) token a b
  connections_sound (Some terminals.Channel) h =
      then_rest token a b Part.Connections Part.Channel (start_channel (Some terminals.Channel)) channels_after
      (channel_sound (Some terminals.Channel) h) (λ v c f others d m. channels_row f m)
  connections_sound first h =
      then_rest token a b Part.Connections Part.Conversation (start_conversation first) conversations_after
      (conversation_sound first h) (λ v c f others d m. conversations_row f m)

  module _ (edition : Edition) where
    procedure_sound : (first : Option Terminal) → Passes first token a b → Forms (Part.Procedure edition) (start_procedure edition first) token a b
    procedure_sound (Some terminals.Procedure) h =
        λ name c n bracket d o parameters e p close f z body g v. procedure_row (passed h h.names h.blocks) (named n)
        (plain o o.names o.blocks) p (plain z z.names z.blocks) v
    procedure_sound _ h = tt

    procedures_sound : (first : Option Terminal) → Passes first token a b → Forms (Part.Procedures edition) (start_procedures edition first) token a b
    procedures_sound first h =
        then_rest token a b (Part.Procedures edition) (Part.Procedure edition) (start_procedure edition first)
        (procedures_after edition) (procedure_sound first h) (λ v c s others d m. procedures_row s m)

    process_sound : (first : Option Terminal) → Passes first token a b → Forms (Part.Process edition) (start_process edition first) token a b
    process_sound (Some terminals.Process) h =
        λ name c n brace d o variables e v procedures f p commands g m close i z. process_row (passed h h.names h.blocks)
        (named n) (plain o o.names o.blocks) v p m (plain z z.names z.blocks)
    process_sound _ h = tt

    processes_sound : (first : Option Terminal) → Passes first token a b → Forms (Part.Processes edition) (start_processes edition first) token a b
    processes_sound first h =
        then_rest token a b (Part.Processes edition) (Part.Process edition) (start_process edition first)
        (processes_after edition) (process_sound first h) (λ v c s others d m. processes_row s m)

    more_processes_sound : (first : Option Terminal) → Passes first token a b →
        Forms (Part.MoreProcesses edition) (start_more_processes edition first) token a b
    more_processes_sound first h =
        then_rest token a b (Part.MoreProcesses edition) (Part.Process edition) (start_process edition first)
        (processes_after edition) (process_sound first h) (λ v c s others d m. more_processes_row s m)

    unmarked_sound : (first : Option Terminal) → Passes first token a b → Forms (Part.Unmarked edition) (start_unmarked edition first) token a b
    unmarked_sound (Some terminals.Program) h =
        λ name c n semicolon d s connections e k processes f p end i x dot j z. ended
        (λ names blocks. Derives (Part.Unmarked edition) (tree_with edition (name_of (seen_from name b)) connections processes
        names blocks) a j) z.names z.blocks (program_row (passed h h.names h.blocks) (named n) (plain s s.names s.blocks) k p
        (plain x x.names x.blocks) (plain z z.names z.blocks))
    unmarked_sound _ h = tt

  program_sound : (first : Option Terminal) → Passes first token a b → Forms Part.Program (start_program first) token a b
  program_sound (Some terminals.Edition) h =
      λ two c t semicolon d s tree e u. second_edition_row (passed h h.names h.blocks) (plain t t.names t.blocks) (plain s s.names s.blocks) u
  program_sound first h =
      then_rest token a b Part.Program (Part.Unmarked editions.First) (start_unmarked editions.First first) nothing_after
      (unmarked_sound editions.First first h) (λ v c d. first_edition_row d)

  pub start_sound : (part : Part) (first : Option Terminal) → Passes first token a b → Forms part (start part first) token a b
  start_sound Part.Program first h = program_sound first h
  start_sound (Part.Unmarked edition) first h = unmarked_sound edition first h
  start_sound Part.Connections first h = connections_sound first h
  start_sound Part.Channel first h = channel_sound first h
  start_sound Part.Conversation first h = conversation_sound first h
  start_sound Part.Names first h = names_sound first h
  start_sound Part.MoreNames first h = more_names_sound first h
  start_sound (Part.Process edition) first h = process_sound edition first h
  start_sound (Part.Processes edition) first h = processes_sound edition first h
  start_sound (Part.MoreProcesses edition) first h = more_processes_sound edition first h
  start_sound (Part.Procedures edition) first h = procedures_sound edition first h
  start_sound (Part.Procedure edition) first h = procedure_sound edition first h
  start_sound Part.Parameters first h = parameters_sound first h
  start_sound Part.Declarations first h = declarations_sound token a b first h
  start_sound Part.Declaration first h = declaration_sound token a b first h
  start_sound Part.Size first h = size_sound token a b first h
  start_sound (Part.Block edition) first h = block_sound token a b edition first h
  start_sound (Part.Statements edition) first h = statements_sound token a b edition first h
  start_sound (Part.Statement edition) first h = statement_sound token a b edition first h
  start_sound (Part.OptionalElse edition) first h = optional_else_sound token a b edition first h
  start_sound (Part.ReceiptEnd edition) first h = receipt_end_sound token a b edition first h
  start_sound (Part.Recovery edition) first h = recovery_sound token a b edition first h
  start_sound (Part.Alternates edition) first h = alternates_sound token a b edition first h
  start_sound (Part.Alternate edition) first h = alternate_sound token a b edition first h
  start_sound (Part.OtherAlternates edition) first h = other_alternates_sound token a b edition first h
  start_sound Part.Items first h = items_sound token a b first h
  start_sound Part.MoreItems first h = more_items_sound token a b first h
  start_sound Part.Item first h = item_sound token a b first h
  start_sound Part.Arguments first h = arguments_sound token a b first h
  start_sound Part.Expressions first h = expressions_sound token a b first h
  start_sound Part.MoreExpressions first h = more_expressions_sound token a b first h
  start_sound Part.Expression first h = expression_sound token a b first h
  start_sound (Part.Chain level) first h = chain_sound token a b level first h
  start_sound (Part.Links level) first h = link_sound token a b level first h
  start_sound (Part.Operand level) first h = operand_sound token a b level first h
  start_sound Part.Negation first h = negation_sound token a b first h
  start_sound Part.Comparison first h = comparison_sound token a b first h
  start_sound Part.Compared first h = compared_sound token a b first h
  start_sound Part.Factor first h = factor_sound token a b first h
  start_sound Part.Atom first h = atom_sound token a b first h
  start_sound Part.Place first h = place_sound token a b first h
  start_sound Part.Subscript first h = subscript_sound token a b first h
  start_sound Part.Number first h = number_sound token a b first h

-- and so is what a part without tokens gives
abbrev pub Without : (part : Part) → Option (Value part) → Point → Type 0
Without part None a = Unit {0}
Without part (Some v) a = Derives part v a a

pub empty_sound : (part : Part) (a : Point) → Without part (empty part) a
empty_sound Part.Connections a = no_connection_row
empty_sound Part.MoreNames a = no_name_row
empty_sound (Part.MoreProcesses edition) a = no_process_row
empty_sound (Part.Procedures edition) a = no_procedure_row
empty_sound Part.Parameters a = no_parameter_row
empty_sound Part.Declarations a = no_declaration_row
empty_sound Part.Size a = no_size_row
empty_sound (Part.Statements edition) a = no_statement_row
empty_sound (Part.OptionalElse edition) a = no_else_row
empty_sound Part.MoreItems a = no_item_row
empty_sound Part.Arguments a = no_argument_row
empty_sound Part.MoreExpressions a = no_more_expression_row
empty_sound (Part.Links level) a = no_link_row
empty_sound Part.Compared a = not_compared_row
empty_sound Part.Subscript a = no_subscript_row
empty_sound _ a = tt
