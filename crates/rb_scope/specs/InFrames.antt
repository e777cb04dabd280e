-- What each name that is used in a tree stands for, told along the frames that the meaning pushes: a relation over the tree between
-- names, their slots, and what the meaning finds under them. Code that is made by slots agrees with the meaning by it, and knows of
-- no scopes.
use Rattle.std.specs.Prelude.{◌≡◌, ℕ, ◌<◌, ◌≤◌, true, List, length, slice_get, Option, Some, None}
use Rattle.std.specs.List.{All}
use Rattle.rb_base.specs.declared.limits.TheConstants.{MOST_ELEMENTS}
use Rattle.rb_syntax.specs.Tree.{Identifier, Expression, Literal, Variable, Former, Minus, Negation, Chained, Quantification, Reference, Refer, Scalar, Element, Links, NoLink, Linked, Printed, Words, Amount, Command, Assignment, Printing, Sending, Receiving, Conditional, Loop, Invocation, Failure, Recovering, Commands, NoCommand, Then, Body, Scope, Otherwise, NoElse, Else, RecoveryBlock, Recovers, Alternates, NoAlternate, Alternate, ChannelDeclaration, ConversationDeclaration, ProcedureDeclaration, ProcessDeclaration, Tree}
use Rattle.rb_meaning.specs.Step.{commands_of}
use Rattle.rb_meaning.specs.Groups.{channel_number, conversation_number, process_number, procedure_named, procedures_of}
use Rattle.rb_scope.specs.Frames.{Frames, Lying, array_slot, counter_among, in_acceptance, in_body, in_limit, lying, main_frames, procedure_frames, pushed, scalar_slot, words_lying}
use Rattle.rb_scope.specs.declared.slot.Slot.{Slot}
use Rattle.rb_scope.specs.declared.slot.Slot.TheVariants.{Process, Channel, Conversation, Procedure, Counter}

-- the most quantified expressions that stand inside each other
abbrev pub most_quantifications : ℕ
most_quantifications = 2

-- the name is that of a scalar which the frames have, and has its slot
pub record IsScalar (slots : List Slot) (frames : Frames) (name : Identifier) : Type 0 where
  pub at : Lying
  pub found : lying frames name.text ≡ Some at
  pub one_word : words_lying at ≡ 1
  pub slot : slice_get slots name.id ≡ Some (scalar_slot at)

-- the name is that of an array which the frames have, of a size that arrays may have, and has its slot
pub record IsArray (slots : List Slot) (frames : Frames) (name : Identifier) : Type 0 where
  pub at : Lying
  pub found : lying frames name.text ≡ Some at
  pub some : 1 ≤ words_lying at
  pub few : words_lying at ≤ MOST_ELEMENTS
  pub slot : slice_get slots name.id ≡ Some (array_slot at)

-- the name is that of a quantified expression around, with its counter, or else of a scalar
abbrev pub IsValueBy : Option ℕ → List Slot → Frames → Identifier → Type 0
IsValueBy (Some k) slots frames name = (slice_get slots name.id ≡ Some (Counter k)) × (k < most_quantifications)
IsValueBy None slots frames name = IsScalar slots frames name

abbrev pub IsValue : List Slot → Frames → Identifier → Type 0
IsValue slots frames name = IsValueBy (counter_among frames.counters name.text) slots frames name

-- the name is that of a process, channel or conversation of the program, and has the slot of its number
pub record IsProcess (tree : Tree) (slots : List Slot) (name : Identifier) : Type 0 where
  pub slot : slice_get slots name.id ≡ Some (Process (process_number tree name.text))
  pub there : process_number tree name.text < length tree.processes

pub record IsChannel (tree : Tree) (slots : List Slot) (name : Identifier) : Type 0 where
  pub slot : slice_get slots name.id ≡ Some (Channel (channel_number tree name.text))
  pub there : channel_number tree name.text < length tree.channels

pub record IsConversation (tree : Tree) (slots : List Slot) (name : Identifier) : Type 0 where
  pub slot : slice_get slots name.id ≡ Some (Conversation (conversation_number tree name.text))
  pub there : conversation_number tree name.text < length tree.conversations

-- the name is that of a procedure of process number p with so many parameters, which is the one that a call finds, and has the slot
-- of its number
pub record IsProcedure (tree : Tree) (slots : List Slot) (p : ℕ) (name : Identifier) (n : ℕ) : Type 0 where
  pub procedure : ProcedureDeclaration
  pub number : ℕ
  pub found : procedure_named tree p name.text ≡ Some procedure
  pub there : slice_get (procedures_of (slice_get tree.processes p)) number ≡ Some procedure
  pub slot : slice_get slots name.id ≡ Some (Procedure number)
  pub parameters : length procedure.parameters ≡ n

abbrev mutual
  -- an expression
  pub ExpressionInFrames : List Slot → Frames → Expression → Type 0
  ExpressionInFrames slots frames (Literal number) = Unit {0}
  ExpressionInFrames slots frames (Variable reference) = ReferenceInFrames slots frames (IsValue slots frames) reference
  ExpressionInFrames slots frames (Former place reference) =
      (frames.in_test ≡ true) × ReferenceInFrames slots frames (IsScalar slots frames) reference
  ExpressionInFrames slots frames (Minus operand) = ExpressionInFrames slots frames operand
  ExpressionInFrames slots frames (Negation operand) = ExpressionInFrames slots frames operand
  ExpressionInFrames slots frames (Chained first links) = ExpressionInFrames slots frames first × LinksInFrames slots frames links
  ExpressionInFrames slots frames (Quantification kind place name low high body) =
      (frames.quantified < most_quantifications) × (slice_get slots name.id ≡ Some (Counter frames.quantified))
      × ExpressionInFrames slots (in_limit frames) low × ExpressionInFrames slots (in_limit frames) high
      × ExpressionInFrames slots (in_body name frames) body

  -- a place, whose name keeps this where it has no index
  pub ReferenceInFrames : List Slot → Frames → (Identifier → Type 0) → Reference → Type 0
  ReferenceInFrames slots frames P (Refer name Scalar) = P name
  ReferenceInFrames slots frames P (Refer name (Element index)) = IsArray slots frames name × ExpressionInFrames slots frames index

  -- right operands
  pub LinksInFrames : List Slot → Frames → Links → Type 0
  LinksInFrames slots frames NoLink = Unit {0}
  LinksInFrames slots frames (Linked op right links) = ExpressionInFrames slots frames right × LinksInFrames slots frames links

-- what is printed
abbrev pub PrintedInFrames : List Slot → Frames → Printed → Type 0
PrintedInFrames slots frames (Words text) = Unit {0}
PrintedInFrames slots frames (Amount value) = ExpressionInFrames slots frames value

-- the conversation of a `converse`
abbrev pub JoinedInFrames : Tree → List Slot → Option Identifier → Type 0
JoinedInFrames tree slots None = Unit {0}
JoinedInFrames tree slots (Some name) = IsConversation tree slots name

abbrev mutual
  -- a statement of process number p
  pub CommandInFrames : Tree → List Slot → ℕ → Frames → Command → Type 0
  CommandInFrames tree slots p frames (Assignment to value) =
      ReferenceInFrames slots frames (IsScalar slots frames) to × ExpressionInFrames slots frames value
  CommandInFrames tree slots p frames (Printing items) = All (λ item. PrintedInFrames slots frames item.what) items
  CommandInFrames tree slots p frames (Sending channel value) = IsChannel tree slots channel × ExpressionInFrames slots frames value
  CommandInFrames tree slots p frames (Receiving channel to otherwise) =
      IsChannel tree slots channel × ReferenceInFrames slots frames (IsScalar slots frames) to
      × OtherwiseInFrames tree slots p frames otherwise
  CommandInFrames tree slots p frames (Conditional test body otherwise) =
      ExpressionInFrames slots frames test × BodyInFrames tree slots p frames body × OtherwiseInFrames tree slots p frames otherwise
  CommandInFrames tree slots p frames (Loop test body) = ExpressionInFrames slots frames test × BodyInFrames tree slots p frames body
  CommandInFrames tree slots p frames (Invocation procedure arguments) =
      IsProcedure tree slots p procedure (length arguments) × All (ExpressionInFrames slots frames) arguments
  CommandInFrames tree slots p frames Failure = Unit {0}
  CommandInFrames tree slots p frames (Recovering block) = RecoveryInFrames tree slots p frames block

  -- statements
  pub CommandsInFrames : Tree → List Slot → ℕ → Frames → Commands → Type 0
  CommandsInFrames tree slots p frames NoCommand = Unit {0}
  CommandsInFrames tree slots p frames (Then first rest) =
      CommandInFrames tree slots p frames first × CommandsInFrames tree slots p frames rest

  -- a block, whose frame is pushed
  pub BodyInFrames : Tree → List Slot → ℕ → Frames → Body → Type 0
  BodyInFrames tree slots p frames (Scope variables commands) = CommandsInFrames tree slots p (pushed variables frames) commands

  -- an `else`
  pub OtherwiseInFrames : Tree → List Slot → ℕ → Frames → Otherwise → Type 0
  OtherwiseInFrames tree slots p frames NoElse = Unit {0}
  OtherwiseInFrames tree slots p frames (Else body) = BodyInFrames tree slots p frames body

  -- a recovery block, whose test stands outside its alternates
  pub RecoveryInFrames : Tree → List Slot → ℕ → Frames → RecoveryBlock → Type 0
  RecoveryInFrames tree slots p frames (Recovers number conversation place test bound alternates) =
      JoinedInFrames tree slots conversation × ExpressionInFrames slots (in_acceptance frames) test
      × AlternatesInFrames tree slots p frames alternates

  -- alternates
  pub AlternatesInFrames : Tree → List Slot → ℕ → Frames → Alternates → Type 0
  AlternatesInFrames tree slots p frames NoAlternate = Unit {0}
  AlternatesInFrames tree slots p frames (Alternate body others) =
      BodyInFrames tree slots p frames body × AlternatesInFrames tree slots p frames others

-- a procedure of process number p, whose call pushes one frame
abbrev pub ProcedureInFrames : Tree → List Slot → ℕ → ProcessDeclaration → ProcedureDeclaration → Type 0
ProcedureInFrames tree slots p process procedure =
    CommandsInFrames tree slots p (procedure_frames process procedure) (commands_of procedure.body)

-- process number p
pub record ProcessInFrames (tree : Tree) (slots : List Slot) (p : ℕ) (process : ProcessDeclaration) : Type 0 where
  pub procedures : All (ProcedureInFrames tree slots p process) process.procedures
  pub commands : CommandsInFrames tree slots p (main_frames process) process.commands

-- the ends of a channel, and the members of a conversation
pub record ChannelInFrames (tree : Tree) (slots : List Slot) (channel : ChannelDeclaration) : Type 0 where
  pub sender : IsProcess tree slots channel.sender
  pub receiver : IsProcess tree slots channel.receiver

abbrev pub ConversationInFrames : Tree → List Slot → ConversationDeclaration → Type 0
ConversationInFrames tree slots conversation = All (IsProcess tree slots) conversation.members

-- Each name that is used in a tree stands for what the meaning finds under it, and has its slot.
pub record Resolved (tree : Tree) (slots : List Slot) : Type 0 where
  pub channels : All (ChannelInFrames tree slots) tree.channels
  pub conversations : All (ConversationInFrames tree slots) tree.conversations
  pub processes : (p : ℕ) (process : ProcessDeclaration) → slice_get tree.processes p ≡ Some process → ProcessInFrames tree slots p process
