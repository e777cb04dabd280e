-- The names and the recovery blocks of a tree as they stand in the text, from left to right, and those of its tokens.
-- One reading from left to right serves both: a telling says what a name and what a recovery block adds. Each function on
-- a part of a tree tells of the part, and then of the rest.
use Rattle.std.specs.Prelude.{◌≡◌, ℕ, List, [], ◌∷◌, Option, Some, None}
use Rattle.rb_base.specs.declared.place.Place.{Place}
use Rattle.rb_lex.specs.Tokens.{Lexeme}
use Rattle.rb_grammar.specs.declared.terminal.Terminal.{Terminal}
use Rattle.rb_grammar.specs.declared.terminal.Terminal.TheVariants as terminals
use Rattle.rb_grammar.specs.Machine.{names_after, blocks_after}
use Rattle.rb_grammar.specs.Terminals.{terminal_of}
use Rattle.rb_syntax.specs.Tree.{Identifier, Expression, Literal, Variable, Former, Minus, Negation, Chained, Quantification}
use Rattle.rb_syntax.specs.Tree.{Reference, Refer, Subscript, Scalar, Element, Links, NoLink, Linked, Declaration, Printed, Words}
use Rattle.rb_syntax.specs.Tree.{Amount, PrintItem, Command, Assignment, Printing, Sending, Receiving, Conditional, Loop}
use Rattle.rb_syntax.specs.Tree.{Invocation, Failure, Recovering, Commands, NoCommand, Then, Body, Scope, Otherwise, NoElse, Else}
use Rattle.rb_syntax.specs.Tree.{RecoveryBlock, Recovers, Alternates, NoAlternate, Alternate, ChannelDeclaration}
use Rattle.rb_syntax.specs.Tree.{ConversationDeclaration, ProcedureDeclaration, ProcessDeclaration, Tree}

-- what a name adds to what is told of the rest, and what a recovery block adds
pub record Telling (A : Type 0) : Type 0 where
  pub name : Identifier → List A → List A
  pub recovery : ℕ → Place → List A → List A

-- all parts in a list, and then the rest
abbrev pub each : {A B : Type 0} → (A → List B → List B) → List A → List B → List B
each f [] rest = rest
each f (x ∷ xs) rest = f x (each f xs rest)

-- a name that may be absent
abbrev pub if_named : {A : Type 0} → Telling A → Option Identifier → List A → List A
if_named t None rest = rest
if_named t (Some name) rest = t.name name rest

abbrev mutual
  -- an expression
  pub expression_told : {A : Type 0} → Telling A → Expression → List A → List A
  expression_told t (Literal number) rest = rest
  expression_told t (Variable reference) rest = reference_told t reference rest
  expression_told t (Former place reference) rest = reference_told t reference rest
  expression_told t (Minus operand) rest = expression_told t operand rest
  expression_told t (Negation operand) rest = expression_told t operand rest
  expression_told t (Chained first links) rest = expression_told t first (links_told t links rest)
  expression_told t (Quantification kind place name low high body) rest =
      t.name name (expression_told t low (expression_told t high (expression_told t body rest)))

  -- a place
  pub reference_told : {A : Type 0} → Telling A → Reference → List A → List A
  reference_told t (Refer name subscript) rest = t.name name (subscript_told t subscript rest)

  -- an index
  pub subscript_told : {A : Type 0} → Telling A → Subscript → List A → List A
  subscript_told t Scalar rest = rest
  subscript_told t (Element index) rest = expression_told t index rest

  -- operators and their right operands
  pub links_told : {A : Type 0} → Telling A → Links → List A → List A
  links_told t NoLink rest = rest
  links_told t (Linked op right links) rest = expression_told t right (links_told t links rest)

-- a declared variable
abbrev pub declaration_told : {A : Type 0} → Telling A → Declaration → List A → List A
declaration_told t declaration rest = t.name declaration.name rest

-- what is printed
abbrev pub printed_told : {A : Type 0} → Telling A → Printed → List A → List A
printed_told t (Words text) rest = rest
printed_told t (Amount value) rest = expression_told t value rest

-- an item
abbrev pub item_told : {A : Type 0} → Telling A → PrintItem → List A → List A
item_told t item rest = printed_told t item.what rest

abbrev mutual
  -- a statement
  pub command_told : {A : Type 0} → Telling A → Command → List A → List A
  command_told t (Assignment to value) rest = reference_told t to (expression_told t value rest)
  command_told t (Printing items) rest = each (item_told t) items rest
  command_told t (Sending channel value) rest = t.name channel (expression_told t value rest)
  command_told t (Receiving channel to otherwise) rest =
      t.name channel (reference_told t to (otherwise_told t otherwise rest))
  command_told t (Conditional test body otherwise) rest =
      expression_told t test (body_told t body (otherwise_told t otherwise rest))
  command_told t (Loop test body) rest = expression_told t test (body_told t body rest)
  command_told t (Invocation procedure arguments) rest = t.name procedure (each (expression_told t) arguments rest)
  command_told t Failure rest = rest
  command_told t (Recovering block) rest = recovery_told t block rest

  -- statements
  pub commands_told : {A : Type 0} → Telling A → Commands → List A → List A
  commands_told t NoCommand rest = rest
  commands_told t (Then first others) rest = command_told t first (commands_told t others rest)

  -- a block
  pub body_told : {A : Type 0} → Telling A → Body → List A → List A
  body_told t (Scope variables commands) rest = each (declaration_told t) variables (commands_told t commands rest)

  -- an `else`
  pub otherwise_told : {A : Type 0} → Telling A → Otherwise → List A → List A
  otherwise_told t NoElse rest = rest
  otherwise_told t (Else body) rest = body_told t body rest

  -- a recovery block, behind the name of its conversation
  pub recovery_told : {A : Type 0} → Telling A → RecoveryBlock → List A → List A
  recovery_told t (Recovers number conversation place test bound alternates) rest =
      if_named t conversation (t.recovery number place (expression_told t test (alternates_told t alternates rest)))

  -- alternates
  pub alternates_told : {A : Type 0} → Telling A → Alternates → List A → List A
  alternates_told t NoAlternate rest = rest
  alternates_told t (Alternate body others) rest = body_told t body (alternates_told t others rest)

-- a channel
abbrev pub channel_told : {A : Type 0} → Telling A → ChannelDeclaration → List A → List A
channel_told t channel rest = t.name channel.name (t.name channel.sender (t.name channel.receiver rest))

-- a conversation
abbrev pub conversation_told : {A : Type 0} → Telling A → ConversationDeclaration → List A → List A
conversation_told t conversation rest = t.name conversation.name (each t.name conversation.members rest)

-- a procedure
abbrev pub procedure_told : {A : Type 0} → Telling A → ProcedureDeclaration → List A → List A
procedure_told t procedure rest =
    t.name procedure.name (each t.name procedure.parameters (body_told t procedure.body rest))

-- a process
abbrev pub process_told : {A : Type 0} → Telling A → ProcessDeclaration → List A → List A
process_told t process rest =
    t.name process.name (each (declaration_told t) process.variables
    (each (procedure_told t) process.procedures (commands_told t process.commands rest)))

-- a channel or a conversation
pub data Connection : Type 0 where
  AChannel : (channel : ChannelDeclaration) → Connection
  AConversation : (conversation : ConversationDeclaration) → Connection

-- the channels among them
abbrev pub channels_among : List Connection → List ChannelDeclaration
channels_among [] = []
channels_among (AChannel channel ∷ others) = channel ∷ channels_among others
channels_among (AConversation conversation ∷ others) = channels_among others

-- the conversations among them
abbrev pub conversations_among : List Connection → List ConversationDeclaration
conversations_among [] = []
conversations_among (AChannel channel ∷ others) = conversations_among others
conversations_among (AConversation conversation ∷ others) = conversation ∷ conversations_among others

-- a channel or a conversation, told
abbrev pub connection_told : {A : Type 0} → Telling A → Connection → List A → List A
connection_told t (AChannel channel) rest = channel_told t channel rest
connection_told t (AConversation conversation) rest = conversation_told t conversation rest

-- names alone are told
abbrev pub names_alone : Telling Identifier
names_alone = record { name = λ name rest. name ∷ rest; recovery = λ number place rest. rest }

-- the names of a whole tree: those of its channels, then those of its conversations
abbrev pub tree_names : Tree → List Identifier
tree_names tree =
    tree.name ∷ each (channel_told names_alone) tree.channels
    (each (conversation_told names_alone) tree.conversations (each (process_told names_alone) tree.processes []))

-- the names of a whole tree, with its channels and conversations in this order
abbrev pub names_with : List Connection → Tree → List Identifier
names_with connections tree =
    tree.name ∷ each (connection_told names_alone) connections (each (process_told names_alone) tree.processes [])

-- The names of a whole tree in the order of the text. There channels and conversations may stand in any order among each
-- other, while a tree has a list of each.
pub record NamesInText (tree : Tree) (names : List Identifier) : Type 0 where
  pub connections : List Connection
  pub channels : channels_among connections ≡ tree.channels
  pub conversations : conversations_among connections ≡ tree.conversations
  pub is : names_with connections tree ≡ names

-- a recovery block: its number and the place of its word `ensure`
pub record Recovery : Type 0 where
  pub number : ℕ
  pub place : Place

-- the recovery block of this number, at this place
abbrev pub recovery_at : ℕ → Place → Recovery
recovery_at number place = record { number = number; place = place }

-- recovery blocks alone are told
abbrev pub recoveries_alone : Telling Recovery
recoveries_alone = record { name = λ name rest. rest; recovery = λ number place rest. recovery_at number place ∷ rest }

-- the recovery blocks of a whole tree
abbrev pub tree_recoveries : Tree → List Recovery
tree_recoveries tree = each (process_told recoveries_alone) tree.processes []

-- a token as a name
abbrev pub named_by : Lexeme → ℕ → Identifier
named_by token n = record { text = token.text; place = token.place; id = n }

-- a token that is a name or `ensure`, with so many of both before it, and then the rest
abbrev pub token_told : {A : Type 0} → Telling A → Option Terminal → Lexeme → ℕ → ℕ → List A → List A
token_told t (Some terminals.Name) token names blocks rest = t.name (named_by token names) rest
token_told t (Some terminals.Ensure) token names blocks rest = t.recovery blocks token.place rest
token_told t _ token names blocks rest = rest

-- tokens, with so many names and words `ensure` before them
abbrev pub told_from : {A : Type 0} → Telling A → ℕ → ℕ → List Lexeme → List A
told_from t names blocks [] = []
told_from t names blocks (token ∷ tokens) =
    token_told t (terminal_of token) token names blocks (told_from t (names_after (terminal_of token) names)
    (blocks_after (terminal_of token) blocks) tokens)

-- the tokens that are names, numbered in order
abbrev pub names_from : ℕ → List Lexeme → List Identifier
names_from n tokens = told_from names_alone n 0 tokens

-- the tokens that are `ensure`, numbered in order
abbrev pub recoveries_from : ℕ → List Lexeme → List Recovery
recoveries_from n tokens = told_from recoveries_alone 0 n tokens
