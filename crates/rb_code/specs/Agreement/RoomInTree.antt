-- Statements find room for the operands of their expressions: a premise on a tree, whose expressions are not too deep.
use Rattle.std.specs.Prelude.{ℕ, suc, ◌<◌, List, [], ◌∷◌}
use Rattle.std.specs.List.{All}
use Rattle.rb_base.specs.declared.limits.TheConstants.{MOST_OPERANDS}
use Rattle.rb_syntax.specs.Tree.{Expression, Reference, Refer, Scalar, Element, Printed, Words, Amount, Command, Assignment, Printing, Sending, Receiving, Conditional, Loop, Invocation, Failure, Recovering, Commands, NoCommand, Then, Body, Scope, Otherwise, NoElse, Else, RecoveryBlock, Recovers, Alternates, NoAlternate, Alternate, ProcessDeclaration, Tree}
use Rattle.rb_meaning.specs.Step.{commands_of}
use Rattle.rb_code.specs.Agreement.Operands.{HasRoom}

-- the value that goes to a place stands on the place's index, if it has one
abbrev pub StoreHasRoom : Reference → (ℕ → Type 0) → Type 0
StoreHasRoom (Refer name Scalar) Value = Value 0
StoreHasRoom (Refer name (Element index)) Value = HasRoom 0 index × Value 1

abbrev pub PrintedHasRoom : Printed → Type 0
PrintedHasRoom (Words text) = Unit {0}
PrintedHasRoom (Amount value) = HasRoom 0 value

-- each argument stands on those before it
abbrev pub ArgumentsHaveRoom : ℕ → List Expression → Type 0
ArgumentsHaveRoom n [] = Unit {0}
ArgumentsHaveRoom n (argument ∷ arguments) = HasRoom n argument × ArgumentsHaveRoom (suc n) arguments

abbrev mutual
  pub CommandHasRoom : Command → Type 0
  CommandHasRoom (Assignment to value) = StoreHasRoom to (λ n. HasRoom n value)
  CommandHasRoom (Printing items) = All (λ item. PrintedHasRoom item.what) items
  CommandHasRoom (Sending channel value) = HasRoom 0 value
  CommandHasRoom (Receiving channel to otherwise) = StoreHasRoom to (λ n. n < MOST_OPERANDS) × OtherwiseHasRoom otherwise
  CommandHasRoom (Conditional test body otherwise) = HasRoom 0 test × BodyHasRoom body × OtherwiseHasRoom otherwise
  CommandHasRoom (Loop test body) = HasRoom 0 test × BodyHasRoom body
  CommandHasRoom (Invocation procedure arguments) = ArgumentsHaveRoom 0 arguments
  CommandHasRoom Failure = Unit {0}
  CommandHasRoom (Recovering block) = RecoveryHasRoom block

  pub CommandsHaveRoom : Commands → Type 0
  CommandsHaveRoom NoCommand = Unit {0}
  CommandsHaveRoom (Then first rest) = CommandHasRoom first × CommandsHaveRoom rest

  pub BodyHasRoom : Body → Type 0
  BodyHasRoom (Scope variables commands) = CommandsHaveRoom commands

  pub OtherwiseHasRoom : Otherwise → Type 0
  OtherwiseHasRoom NoElse = Unit {0}
  OtherwiseHasRoom (Else body) = BodyHasRoom body

  pub RecoveryHasRoom : RecoveryBlock → Type 0
  RecoveryHasRoom (Recovers number conversation place test bound alternates) = HasRoom 0 test × AlternatesHaveRoom alternates

  pub AlternatesHaveRoom : Alternates → Type 0
  AlternatesHaveRoom NoAlternate = Unit {0}
  AlternatesHaveRoom (Alternate body others) = BodyHasRoom body × AlternatesHaveRoom others

-- a process, with its procedures
pub record ProcessHasRoom (process : ProcessDeclaration) : Type 0 where
  pub procedures : All (λ procedure. CommandsHaveRoom (commands_of procedure.body)) process.procedures
  pub commands : CommandsHaveRoom process.commands

-- A tree whose expressions need no more operands than there are.
abbrev pub FewOperands : Tree → Type 0
FewOperands tree = All ProcessHasRoom tree.processes
