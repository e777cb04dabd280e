-- How many bytes the tokens of a tree have at least: a name as many as it has, a text one more, `or` and `and` two, `while` five, `program`
-- seven, and any other token one. A number that no source has, and a recovery block on a line beyond all, weigh more than any source.
use Rattle.std.specs.Prelude.{ℕ, ◌+◌, List, [], ◌∷◌, length, Option, Some, None}
use Rattle.rb_syntax.specs.declared.expression.Number.{Number}
use Rattle.rb_syntax.specs.declared.expression.Op.{Op}
use Rattle.rb_syntax.specs.declared.expression.Op.TheVariants as ops
use Rattle.rb_syntax.specs.Tree.{Identifier, Expression, Literal, Variable, Former, Minus, Negation, Chained, Quantification, Reference, Refer, Subscript, Scalar, Element, Links, NoLink, Linked, Declaration, Printed, Words, Amount, PrintItem, Command, Assignment, Printing, Sending, Receiving, Conditional, Loop, Invocation, Failure, Recovering, Commands, NoCommand, Then, Body, Scope, Otherwise, NoElse, Else, RecoveryBlock, Recovers, Alternates, NoAlternate, Alternate, ChannelDeclaration, ConversationDeclaration, ProcedureDeclaration, ProcessDeclaration, Tree}
use Rattle.rb_sizes.proofs.Weighing.Numbers.{number_extra}
use Rattle.rb_sizes.proofs.Weighing.Sizes.{line_extra, size}

abbrev pub op_weight : Op → ℕ
op_weight ops.Or = 2
op_weight ops.And = 2
op_weight _ = 1

abbrev mutual
  pub expression_weight : Expression → ℕ
  expression_weight (Literal number) = 1 + number_extra number.value
  expression_weight (Variable reference) = reference_weight reference
  expression_weight (Former place reference) = 1 + reference_weight reference
  expression_weight (Minus operand) = 1 + expression_weight operand
  expression_weight (Negation operand) = 1 + expression_weight operand
  expression_weight (Chained first links) = expression_weight first + links_weight links
  expression_weight (Quantification kind place name low high body) =
      5 + expression_weight low + expression_weight high + expression_weight body

  pub reference_weight : Reference → ℕ
  reference_weight (Refer name subscript) = 1 + subscript_weight subscript

  pub subscript_weight : Subscript → ℕ
  subscript_weight Scalar = 0
  subscript_weight (Element index) = 2 + expression_weight index

  pub links_weight : Links → ℕ
  links_weight NoLink = 0
  links_weight (Linked op right links) = op_weight op + expression_weight right + links_weight links

abbrev pub printed_weight : Printed → ℕ
printed_weight (Words text) = 1 + length text
printed_weight (Amount value) = expression_weight value

-- items, each with the word `print` or the comma in front of it
abbrev pub items_weight : List PrintItem → ℕ
items_weight [] = 0
items_weight (item ∷ items) = 1 + printed_weight item.what + items_weight items

-- arguments, each with the bracket or the comma in front of it
abbrev pub arguments_weight : List Expression → ℕ
arguments_weight [] = 0
arguments_weight (argument ∷ arguments) = 1 + expression_weight argument + arguments_weight arguments

-- the size of an array, in its brackets
abbrev pub size_weight : Option Number → ℕ
size_weight None = 0
size_weight (Some number) = 3

abbrev pub declaration_weight : Declaration → ℕ
declaration_weight declaration = 2 + size declaration.name.text + size_weight declaration.size

abbrev pub declarations_weight : List Declaration → ℕ
declarations_weight [] = 0
declarations_weight (first ∷ others) = declaration_weight first + declarations_weight others

-- the word `converse` and a name
abbrev pub joined_weight : Option Identifier → ℕ
joined_weight None = 0
joined_weight (Some name) = 2

abbrev mutual
  pub command_weight : Command → ℕ
  command_weight (Assignment to value) = 2 + reference_weight to + expression_weight value
  command_weight (Printing items) = 1 + items_weight items
  command_weight (Sending channel value) = 3 + expression_weight value
  command_weight (Receiving channel to otherwise) = 2 + reference_weight to + otherwise_weight otherwise
  command_weight (Conditional test body otherwise) = 1 + expression_weight test + body_weight body + otherwise_weight otherwise
  command_weight (Loop test body) = 5 + expression_weight test + body_weight body
  command_weight (Invocation procedure arguments) = 4 + arguments_weight arguments
  command_weight Failure = 2
  command_weight (Recovering block) = recovery_weight block

  pub commands_weight : Commands → ℕ
  commands_weight NoCommand = 0
  commands_weight (Then first rest) = command_weight first + commands_weight rest

  pub body_weight : Body → ℕ
  body_weight (Scope variables commands) = 2 + declarations_weight variables + commands_weight commands

  pub otherwise_weight : Otherwise → ℕ
  otherwise_weight NoElse = 0
  otherwise_weight (Else body) = 1 + body_weight body

  pub recovery_weight : RecoveryBlock → ℕ
  recovery_weight (Recovers number conversation place test bound alternates) =
      5 + line_extra place.line + joined_weight conversation + expression_weight test + alternates_weight alternates

  pub alternates_weight : Alternates → ℕ
  alternates_weight NoAlternate = 0
  alternates_weight (Alternate body others) = 2 + body_weight body + alternates_weight others

abbrev pub procedures_weight : List ProcedureDeclaration → ℕ
procedures_weight [] = 0
procedures_weight (procedure ∷ others) =
    3 + size procedure.name.text + length procedure.parameters + body_weight procedure.body + procedures_weight others

abbrev pub process_weight : ProcessDeclaration → ℕ
process_weight process =
    3 + size process.name.text + declarations_weight process.variables + procedures_weight process.procedures + commands_weight process.commands

abbrev pub processes_weight : List ProcessDeclaration → ℕ
processes_weight [] = 0
processes_weight (process ∷ others) = process_weight process + processes_weight others

abbrev pub channels_weight : List ChannelDeclaration → ℕ
channels_weight [] = 0
channels_weight (channel ∷ others) = 8 + size channel.name.text + channels_weight others

abbrev pub conversations_weight : List ConversationDeclaration → ℕ
conversations_weight [] = 0
conversations_weight (conversation ∷ others) =
    4 + size conversation.name.text + length conversation.members + conversations_weight others

abbrev pub weight : Tree → ℕ
weight tree = 11 + channels_weight tree.channels + conversations_weight tree.conversations + processes_weight tree.processes
