-- The plain tree of a program: what a tree in memory stands for, with lists in place of vectors and bytes in place of
-- slices. The language's forms are those of recovery blocks (Horning, Lauer, Melliar-Smith, Randell 1974) and of
-- conversations (Randell 1975); channels, quantified expressions and the rest are this project's own.
use Rattle.std.specs.Prelude.{ℕ, List, Option}
use Rattle.rb_base.specs.declared.edition.Edition.{Edition}
use Rattle.rb_base.specs.declared.place.Place.{Place}
use Rattle.rb_syntax.specs.declared.expression.Number.{Number}
use Rattle.rb_syntax.specs.declared.expression.Op.{Op}
use Rattle.rb_syntax.specs.declared.expression.Quantifier.{Quantifier}

-- a name where it stands, with its number among all names of the text
pub record Identifier : Type 0 where
  pub text : List ℕ
  pub place : Place
  pub id : ℕ

mutual
  -- an expression; a former value is one that `prior` reads (Randell 1975)
  pub data Expression : Type 0 where
    Literal : (number : Number) → Expression
    Variable : (reference : Reference) → Expression
    Former : (place : Place) (reference : Reference) → Expression
    Minus : (operand : Expression) → Expression
    Negation : (operand : Expression) → Expression
    Chained : (first : Expression) (links : Links) → Expression
    Quantification : (kind : Quantifier) (place : Place) (name : Identifier) (low high body : Expression) → Expression

  -- a variable, or an element of an array
  pub data Reference : Type 0 where
    Refer : (name : Identifier) (subscript : Subscript) → Reference

  -- a variable as a whole, or the index of an element
  pub data Subscript : Type 0 where
    Scalar : Subscript
    Element : (index : Expression) → Subscript

  -- the operators of one level and their right operands, from left to right
  pub data Links : Type 0 where
    NoLink : Links
    Linked : (op : Op) (right : Expression) (links : Links) → Links

-- a declaration of a variable, or of an array with its size
pub record Declaration : Type 0 where
  pub name : Identifier
  pub size : Option Number

-- what an item of a `print` prints
pub data Printed : Type 0 where
  Words : (text : List ℕ) → Printed
  Amount : (value : Expression) → Printed

-- an item of a `print`, with its place
pub record PrintItem : Type 0 where
  pub place : Place
  pub what : Printed

mutual
  -- a statement, of each form that the language has
  pub data Command : Type 0 where
    Assignment : (to : Reference) (value : Expression) → Command
    Printing : (items : List PrintItem) → Command
    Sending : (channel : Identifier) (value : Expression) → Command
    Receiving : (channel : Identifier) (to : Reference) (otherwise : Otherwise) → Command
    Conditional : (test : Expression) (body : Body) (otherwise : Otherwise) → Command
    Loop : (test : Expression) (body : Body) → Command
    Invocation : (procedure : Identifier) (arguments : List Expression) → Command
    Failure : Command
    Recovering : (block : RecoveryBlock) → Command

  -- statements in order
  pub data Commands : Type 0 where
    NoCommand : Commands
    Then : (first : Command) (rest : Commands) → Commands

  -- a block: its variables and its statements
  pub data Body : Type 0 where
    Scope : (variables : List Declaration) (commands : Commands) → Body

  -- what stands under `else`, if there is an `else`
  pub data Otherwise : Type 0 where
    NoElse : Otherwise
    Else : (body : Body) → Otherwise

  -- A recovery block, or a member's part of a conversation: its number, its conversation, the place of its word `ensure`,
  -- its acceptance test, its turn bound and its alternates.
  -- (1974, for conversations Randell 1975)
  pub data RecoveryBlock : Type 0 where
    Recovers : (number : ℕ) (conversation : Option Identifier) (place : Place) (test : Expression) (bound : Number) (alternates : Alternates)
        → RecoveryBlock

  -- the alternates of a recovery block, in the order in which they are tried (1974)
  pub data Alternates : Type 0 where
    NoAlternate : Alternates
    Alternate : (body : Body) (others : Alternates) → Alternates

-- a channel: its name, its sender, its receiver and its size
pub record ChannelDeclaration : Type 0 where
  pub name : Identifier
  pub sender : Identifier
  pub receiver : Identifier
  pub size : Number

-- a conversation: its name and its members (Randell 1975)
pub record ConversationDeclaration : Type 0 where
  pub name : Identifier
  pub members : List Identifier

-- a procedure: its name, its parameters and its block
pub record ProcedureDeclaration : Type 0 where
  pub name : Identifier
  pub parameters : List Identifier
  pub body : Body

-- a process: its name, its variables, its procedures and its statements
pub record ProcessDeclaration : Type 0 where
  pub name : Identifier
  pub variables : List Declaration
  pub procedures : List ProcedureDeclaration
  pub commands : Commands

-- a whole program, with the numbers of its names and of its recoveries
pub record Tree : Type 0 where
  pub name : Identifier
  pub channels : List ChannelDeclaration
  pub conversations : List ConversationDeclaration
  pub processes : List ProcessDeclaration
  pub names : ℕ
  pub blocks : ℕ
  pub edition : Edition
