-- The table, last part: what the plan of a program is at the token that stands first; the plan of each part; and what a
-- part without tokens gives.
use Rattle.std.specs.Prelude.{ℕ, List, [], ◌∷◌, Option, Some, None}
use Rattle.rb_base.specs.declared.edition.Edition.{Edition}
use Rattle.rb_base.specs.declared.edition.Edition.TheVariants as editions
use Rattle.rb_grammar.specs.declared.terminal.Terminal.{Terminal}
use Rattle.rb_grammar.specs.declared.terminal.Terminal.TheVariants as terminals
pub use Rattle.rb_grammar.specs.ExpressionTable.{Start, begin, nothing_after, name_of}
use Rattle.rb_grammar.specs.ExpressionTable.{start_number, start_subscript, start_place, start_atom, start_factor, start_link}
use Rattle.rb_grammar.specs.ExpressionTable.{start_compared, start_comparison, start_negation, start_operand, start_chain}
use Rattle.rb_grammar.specs.ExpressionTable.{start_expression}
use Rattle.rb_grammar.specs.Operators.{operator, comparison}
use Rattle.rb_grammar.specs.Parts.{Part}
use Rattle.rb_grammar.specs.Plans.{Value, Seen, Plan, Done, Token, Call}
use Rattle.rb_grammar.specs.StatementTable.{start_item, start_items, start_more_items, start_arguments, start_expressions}
use Rattle.rb_grammar.specs.StatementTable.{start_more_expressions, start_size, start_declaration, start_declarations}
use Rattle.rb_grammar.specs.StatementTable.{start_block, start_optional_else, start_receipt_end, start_alternates}
use Rattle.rb_grammar.specs.StatementTable.{start_alternate, start_other_alternates, start_recovery, start_statement}
use Rattle.rb_grammar.specs.StatementTable.{start_statements}
use Rattle.rb_syntax.specs.Tree.{Identifier, Scalar, NoLink, NoCommand, NoElse, ChannelDeclaration, ConversationDeclaration, ProcedureDeclaration, ProcessDeclaration, Tree}

-- names begin with the first
abbrev pub start_names : Option Terminal → Start (List Identifier)
start_names (Some terminals.Name) = Some (λ name. Call Part.MoreNames (λ others. Done (name_of name ∷ others)))
start_names _ = None

-- more names begin with a comma
abbrev pub start_more_names : Option Terminal → Start (List Identifier)
start_more_names (Some terminals.Comma) = Some (λ comma. Token terminals.Name (λ name. Call Part.MoreNames (λ others. Done (name_of name ∷ others))))
start_more_names _ = None

-- parameters are such a list
abbrev pub start_parameters : Option Terminal → Start (List Identifier)
start_parameters first = begin (start_names first) nothing_after

-- a procedure begins with its word
abbrev pub start_procedure : Edition → Option Terminal → Start ProcedureDeclaration
start_procedure edition (Some terminals.Procedure) = Some (λ procedure. Token terminals.Name
    (λ name. Token terminals.OpenParen (λ bracket. Call Part.Parameters
    (λ parameters. Token terminals.CloseParen (λ close. Call (Part.Block edition)
    (λ body. Done (record { name = name_of name; parameters = parameters; body = body })))))))
start_procedure edition _ = None

-- after its first procedure a list goes on
abbrev pub procedures_after : Edition → Seen → ProcedureDeclaration → Plan (List ProcedureDeclaration)
procedures_after edition seen procedure = Call (Part.Procedures edition) (λ others. Done (procedure ∷ others))

abbrev pub start_procedures : Edition → Option Terminal → Start (List ProcedureDeclaration)
start_procedures edition first = begin (start_procedure edition first) (procedures_after edition)

-- a process begins with its word
abbrev pub start_process : Edition → Option Terminal → Start ProcessDeclaration
start_process edition (Some terminals.Process) = Some (λ process. Token terminals.Name
    (λ name. Token terminals.OpenBrace (λ brace. Call Part.Declarations
    (λ variables. Call (Part.Procedures edition) (λ procedures. Call (Part.Statements edition)
    (λ commands. Token terminals.CloseBrace (λ close. Done (record
    { name = name_of name; variables = variables; procedures = procedures; commands = commands }))))))))
start_process edition _ = None

-- after a process there may be more
abbrev pub processes_after : Edition → Seen → ProcessDeclaration → Plan (List ProcessDeclaration)
processes_after edition seen process = Call (Part.MoreProcesses edition) (λ others. Done (process ∷ others))

abbrev pub start_processes : Edition → Option Terminal → Start (List ProcessDeclaration)
start_processes edition first = begin (start_process edition first) (processes_after edition)

abbrev pub start_more_processes : Edition → Option Terminal → Start (List ProcessDeclaration)
start_more_processes edition first = begin (start_process edition first) (processes_after edition)

-- a channel begins with its word
abbrev pub start_channel : Option Terminal → Start ChannelDeclaration
start_channel (Some terminals.Channel) = Some (λ channel. Token terminals.Name
    (λ name. Token terminals.From (λ from. Token terminals.Name
    (λ sender. Token terminals.To (λ to. Token terminals.Name
    (λ receiver. Token terminals.Size (λ word. Call Part.Number
    (λ size. Token terminals.Semicolon (λ semicolon. Done (record
    { name = name_of name; sender = name_of sender; receiver = name_of receiver; size = size }))))))))))
start_channel _ = None

-- a conversation begins with its word
abbrev pub start_conversation : Option Terminal → Start ConversationDeclaration
start_conversation (Some terminals.Conversation) = Some (λ conversation. Token terminals.Name
    (λ name. Token terminals.OpenParen (λ bracket. Call Part.Names
    (λ members. Token terminals.CloseParen (λ close. Token terminals.Semicolon
    (λ semicolon. Done (record { name = name_of name; members = members })))))))
start_conversation _ = None

-- after a channel or a conversation there may be more of both
abbrev pub channels_after : Seen → ChannelDeclaration → Plan (List ChannelDeclaration × List ConversationDeclaration)
channels_after seen channel = Call Part.Connections (λ others. Done (channel ∷ others.0, others.1))

abbrev pub conversations_after : Seen → ConversationDeclaration → Plan (List ChannelDeclaration × List ConversationDeclaration)
conversations_after seen conversation = Call Part.Connections (λ others. Done (others.0, conversation ∷ others.1))

abbrev pub start_connections : Option Terminal → Start (List ChannelDeclaration × List ConversationDeclaration)
start_connections (Some terminals.Channel) = begin (start_channel (Some terminals.Channel)) channels_after
start_connections first = begin (start_conversation first) conversations_after

-- a tree, with the numbers of names and recoveries
abbrev pub tree_with : Edition → Identifier → List ChannelDeclaration × List ConversationDeclaration → List ProcessDeclaration → ℕ → ℕ → Tree
tree_with edition name connections processes names blocks = record {
  name = name;
  channels = connections.0;
  conversations = connections.1;
  processes = processes;
  names = names;
  blocks = blocks;
  edition = edition;
}

-- a program begins with its word
abbrev pub start_unmarked : Edition → Option Terminal → Start Tree
start_unmarked edition (Some terminals.Program) = Some (λ program. Token terminals.Name
    (λ name. Token terminals.Semicolon (λ semicolon. Call Part.Connections
    (λ connections. Call (Part.Processes edition) (λ processes. Token terminals.End
    (λ end. Token terminals.Dot (λ dot. Done (tree_with edition (name_of name) connections processes dot.names dot.blocks))))))))
start_unmarked edition _ = None

-- in the second edition the word `edition` and its number come before
abbrev pub start_program : Option Terminal → Start Tree
start_program (Some terminals.Edition) = Some (λ edition. Token terminals.Two
    (λ two. Token terminals.Semicolon (λ semicolon. Call (Part.Unmarked editions.Second) (λ tree. Done tree))))
start_program first = begin (start_unmarked editions.First first) nothing_after

-- the plan of each part, at the token that stands first
abbrev pub start : (part : Part) → Option Terminal → Start (Value part)
start Part.Program first = start_program first
start (Part.Unmarked edition) first = start_unmarked edition first
start Part.Connections first = start_connections first
start Part.Channel first = start_channel first
start Part.Conversation first = start_conversation first
start Part.Names first = start_names first
start Part.MoreNames first = start_more_names first
start (Part.Process edition) first = start_process edition first
start (Part.Processes edition) first = start_processes edition first
start (Part.MoreProcesses edition) first = start_more_processes edition first
start (Part.Procedures edition) first = start_procedures edition first
start (Part.Procedure edition) first = start_procedure edition first
start Part.Parameters first = start_parameters first
start Part.Declarations first = start_declarations first
start Part.Declaration first = start_declaration first
start Part.Size first = start_size first
start (Part.Block edition) first = start_block edition first
start (Part.Statements edition) first = start_statements edition first
start (Part.Statement edition) first = start_statement edition first
start (Part.OptionalElse edition) first = start_optional_else edition first
start (Part.ReceiptEnd edition) first = start_receipt_end edition first
start (Part.Recovery edition) first = start_recovery edition first
start (Part.Alternates edition) first = start_alternates edition first
start (Part.Alternate edition) first = start_alternate edition first
start (Part.OtherAlternates edition) first = start_other_alternates edition first
start Part.Items first = start_items first
start Part.MoreItems first = start_more_items first
start Part.Item first = start_item first
start Part.Arguments first = start_arguments first
start Part.Expressions first = start_expressions first
start Part.MoreExpressions first = start_more_expressions first
start Part.Expression first = start_expression first
start (Part.Chain level) first = start_chain level first
start (Part.Links level) first = start_link level (operator first level)
start (Part.Operand level) first = start_operand level first
start Part.Negation first = start_negation first
start Part.Comparison first = start_comparison first
start Part.Compared first = start_compared (comparison first)
start Part.Factor first = start_factor first
start Part.Atom first = start_atom first
start Part.Place first = start_place first
start Part.Subscript first = start_subscript first
start Part.Number first = start_number first

-- what a part gives that has no tokens
abbrev pub empty : (part : Part) → Option (Value part)
empty Part.Connections = Some ([], [])
empty Part.MoreNames = Some []
empty (Part.MoreProcesses edition) = Some []
empty (Part.Procedures edition) = Some []
empty Part.Parameters = Some []
empty Part.Declarations = Some []
empty Part.Size = Some None
empty (Part.Statements edition) = Some NoCommand
empty (Part.OptionalElse edition) = Some NoElse
empty Part.MoreItems = Some []
empty Part.Arguments = Some []
empty Part.MoreExpressions = Some []
empty (Part.Links level) = Some NoLink
empty Part.Compared = Some NoLink
empty Part.Subscript = Some Scalar
empty _ = None
