-- What each part of a text is in the plain tree.
use Rattle.std.specs.Prelude.{List, Option}
use Rattle.rb_grammar.specs.Parts.{Part}
use Rattle.rb_syntax.specs.declared.expression.Number.{Number}
use Rattle.rb_syntax.specs.Tree.{Identifier, Expression, Reference, Subscript, Links, Declaration, PrintItem, Command, Commands}
use Rattle.rb_syntax.specs.Tree.{Body, Otherwise, RecoveryBlock, Alternates, ChannelDeclaration, ConversationDeclaration}
use Rattle.rb_syntax.specs.Tree.{ProcedureDeclaration, ProcessDeclaration, Tree}

abbrev pub Value : Part → Type 0
Value Part.Program = Tree
Value (Part.Unmarked edition) = Tree
Value Part.Connections = List ChannelDeclaration × List ConversationDeclaration
Value Part.Channel = ChannelDeclaration
Value Part.Conversation = ConversationDeclaration
Value Part.Names = List Identifier
Value Part.MoreNames = List Identifier
Value (Part.Process edition) = ProcessDeclaration
Value (Part.Processes edition) = List ProcessDeclaration
Value (Part.MoreProcesses edition) = List ProcessDeclaration
Value (Part.Procedures edition) = List ProcedureDeclaration
Value (Part.Procedure edition) = ProcedureDeclaration
Value Part.Parameters = List Identifier
Value Part.Declarations = List Declaration
Value Part.Declaration = Declaration
Value Part.Size = Option Number
Value (Part.Block edition) = Body
Value (Part.Statements edition) = Commands
Value (Part.Statement edition) = Command
Value (Part.OptionalElse edition) = Otherwise
Value (Part.ReceiptEnd edition) = Otherwise
Value (Part.Recovery edition) = RecoveryBlock
Value (Part.Alternates edition) = Alternates
Value (Part.Alternate edition) = Body
Value (Part.OtherAlternates edition) = Alternates
Value Part.Items = List PrintItem
Value Part.MoreItems = List PrintItem
Value Part.Item = PrintItem
Value Part.Arguments = List Expression
Value Part.Expressions = List Expression
Value Part.MoreExpressions = List Expression
Value Part.Expression = Expression
Value (Part.Chain level) = Expression
Value (Part.Links level) = Links
Value (Part.Operand level) = Expression
Value Part.Negation = Expression
Value Part.Comparison = Expression
Value Part.Compared = Links
Value Part.Factor = Expression
Value Part.Atom = Expression
Value Part.Place = Reference
Value Part.Subscript = Subscript
Value Part.Number = Number
