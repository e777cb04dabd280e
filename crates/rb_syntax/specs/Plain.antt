-- The plain tree that a tree in memory stands for.
use Rattle.std.specs.Prelude.{List, [], ◌∷◌, map, Option, Some, None, option_map, Box}
use Rattle.std.specs.declared.alloc.Global.{Global}
use Rattle.rb_syntax.specs.declared.expression.Name.{Name}
use Rattle.rb_syntax.specs.declared.expression.Target.{Target}
use Rattle.rb_syntax.specs.declared.expression.Link.{Link}
use Rattle.rb_syntax.specs.declared.expression.Expr.{Expr, Number, Value', Prior', Neg', Not', Chain', Quantified', Held-Target-index, None', Some', Row_of-Link, end_of-Link, more_of-Link}
use Rattle.rb_syntax.specs.declared.statement.Var.{Var}
use Rattle.rb_syntax.specs.declared.statement.Item.{Item}
use Rattle.rb_syntax.specs.declared.statement.ItemKind.{ItemKind}
use Rattle.rb_syntax.specs.declared.statement.ItemKind.TheVariants.{Text, Value}
use Rattle.rb_syntax.specs.declared.statement.Block.{Block}
use Rattle.rb_syntax.specs.declared.statement.Recovery.{Recovery, Recovery', Row_of-Block, end_of-Block, more_of-Block}
use Rattle.rb_syntax.specs.declared.statement.Statement.{Statement, Assign, Print, Send, Receive', If', While', Call, Fail, Recover, Row_of-Statement, end_of-Statement, more_of-Statement, Held-Statement-Receive-2, None' as no_block', Some' as some_block'}
use Rattle.rb_syntax.specs.declared.program.Channel.{Channel}
use Rattle.rb_syntax.specs.declared.program.Conversation.{Conversation}
use Rattle.rb_syntax.specs.declared.program.Procedure.{Procedure}
use Rattle.rb_syntax.specs.declared.program.Process.{Process}
use Rattle.rb_syntax.specs.declared.program.Program.{Program}
use Rattle.rb_syntax.specs.Tree.{Identifier, Expression, Literal, Variable, Former, Minus, Negation, Chained, Quantification, Reference, Refer, Subscript, Scalar, Element, Links, NoLink, Linked, Declaration, Printed, Words, Amount, PrintItem, Command, Assignment, Printing, Sending, Receiving, Conditional, Loop, Invocation, Failure, Recovering, Commands, NoCommand, Then, Body, Scope, Otherwise, NoElse, Else, RecoveryBlock, Recovers, Alternates, NoAlternate, Alternate, ChannelDeclaration, ConversationDeclaration, ProcedureDeclaration, ProcessDeclaration, Tree}

-- the name that a name in memory stands for
abbrev pub identifier : Name → Identifier
identifier name = record { text = name.text.now; place = name.place; id = name.id }

unfoldable mutual
  -- the expression that one in memory stands for
  pub expression : Expr → Expression
  expression (Number number) = Literal number
  expression (Value' name index) = Variable (Refer (identifier name) (subscript_behind index))
  expression (Prior' place name index) = Former place (Refer (identifier name) (subscript_behind index))
  expression (Neg' pointer operand) = Minus (expression operand)
  expression (Not' pointer operand) = Negation (expression operand)
  expression (Chain' pointer first shape row) = Chained (expression first) (links row)
  expression (Quantified' kind place name pointer low pointer_high high pointer_body body) =
      Quantification kind place (identifier name) (expression low) (expression high) (expression body)

  -- the index inside an expression in memory, if it has one
  pub subscript_behind : Held-Target-index → Subscript
  subscript_behind None' = Scalar
  subscript_behind (Some' pointer index) = Element (expression index)

  -- the operators and right operands of a row in memory
  pub links : {count : _} → Row_of-Link count → Links
  links end_of-Link = NoLink
  links (more_of-Link op right rest) = Linked op (expression right) (links rest)

-- the index of a place in memory, if it has one
abbrev pub subscript : Option (Box Expr Global) → Subscript
subscript None = Scalar
subscript (Some index) = Element (expression index.value)

-- the variable or element that a place in memory stands for
abbrev pub reference : Target → Reference
reference target = Refer (identifier target.name) (subscript target.index)

-- the links of a vector
abbrev pub links_of : List Link → Links
links_of [] = NoLink
links_of (link ∷ rest) = Linked link.op (expression link.right) (links_of rest)

-- the variable that one in memory declares
abbrev pub declaration : Var → Declaration
declaration variable = record { name = identifier variable.name; size = variable.size }

-- what an item in memory prints
abbrev pub printed : ItemKind → Printed
printed (Text text) = Words text.now
printed (Value value) = Amount (expression value)

-- the item of a `print` that one in memory stands for
abbrev pub print_item : Item → PrintItem
print_item item = record { place = item.place; what = printed item.what }

unfoldable mutual
  -- the statement that one in memory stands for
  pub command : Statement → Command
  command (Assign target value) = Assignment (reference target) (expression value)
  command (Print items) = Printing (map print_item items.items)
  command (Send channel value) = Sending (identifier channel) (expression value)
  command (Receive' channel target otherwise) =
      Receiving (identifier channel) (reference target) (otherwise_behind otherwise)
  command (If' test variables shape row otherwise) =
      Conditional (expression test) (Scope (map declaration variables.items) (commands row)) (otherwise_behind otherwise)
  command (While' test variables shape row) =
      Loop (expression test) (Scope (map declaration variables.items) (commands row))
  command (Call procedure arguments) = Invocation (identifier procedure) (map expression arguments.items)
  command Fail = Failure
  command (Recover recovery) = Recovering (recovery_block recovery)

  -- the statements of a row in memory
  pub commands : {count : _} → Row_of-Statement count → Commands
  commands end_of-Statement = NoCommand
  commands (more_of-Statement first rest) = Then (command first) (commands rest)

  -- the `else` inside a statement in memory, if it has one
  pub otherwise_behind : Held-Statement-Receive-2 → Otherwise
  otherwise_behind no_block' = NoElse
  otherwise_behind (some_block' variables shape row) =
      Else (Scope (map declaration variables.items) (commands row))

  -- the recovery block, or the part of a conversation, that one in memory stands for
  pub recovery_block : Recovery → RecoveryBlock
  recovery_block (Recovery' number conversation place test bound shape row) =
      Recovers number (option_map identifier conversation) place (expression test) bound (alternates row)

  -- the alternates of a row in memory
  pub alternates : {count : _} → Row_of-Block count → Alternates
  alternates end_of-Block = NoAlternate
  alternates (more_of-Block variables shape row others) =
      Alternate (Scope (map declaration variables.items) (commands row)) (alternates others)

-- the statements of a vector
abbrev pub commands_of : List Statement → Commands
commands_of [] = NoCommand
commands_of (first ∷ rest) = Then (command first) (commands_of rest)

-- the block that one in memory stands for
abbrev pub body : Block → Body
body block = Scope (map declaration block.vars.items) (commands_of block.body.items)

-- the `else` that one in memory stands for, if there is one
abbrev pub otherwise : Option Block → Otherwise
otherwise None = NoElse
otherwise (Some block) = Else (body block)

-- the alternates of a vector
abbrev pub alternates_of : List Block → Alternates
alternates_of [] = NoAlternate
alternates_of (block ∷ rest) = Alternate (body block) (alternates_of rest)

-- the channel that one in memory declares
abbrev pub channel_declaration : Channel → ChannelDeclaration
channel_declaration channel = record {
  name = identifier channel.name;
  sender = identifier channel.sender;
  receiver = identifier channel.receiver;
  size = channel.size;
}

-- the conversation that one in memory declares
abbrev pub conversation_declaration : Conversation → ConversationDeclaration
conversation_declaration conversation = record {
  name = identifier conversation.name;
  members = map identifier conversation.members.items;
}

-- the procedure that one in memory declares
abbrev pub procedure_declaration : Procedure → ProcedureDeclaration
procedure_declaration procedure = record {
  name = identifier procedure.name;
  parameters = map identifier procedure.params.items;
  body = body procedure.block;
}

-- the process that one in memory declares
abbrev pub process_declaration : Process → ProcessDeclaration
process_declaration process = record {
  name = identifier process.name;
  variables = map declaration process.vars.items;
  procedures = map procedure_declaration process.procedures.items;
  commands = commands_of process.body.items;
}

-- the plain tree of a whole program in memory
abbrev pub tree : Program → Tree
tree program = record {
  name = identifier program.name;
  channels = map channel_declaration program.channels.items;
  conversations = map conversation_declaration program.conversations.items;
  processes = map process_declaration program.processes.items;
  names = program.names;
  blocks = program.blocks;
  edition = program.edition;
}
