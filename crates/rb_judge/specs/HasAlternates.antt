-- Each recovery block of a tree has an alternate.
use Rattle.std.specs.Prelude.{◌≤◌}
use Rattle.std.specs.List.{All}
use Rattle.rb_syntax.specs.Tree.{Command, Assignment, Printing, Sending, Receiving, Conditional, Loop, Invocation, Failure, Recovering, Commands, NoCommand, Then, Body, Scope, Otherwise, NoElse, Else, RecoveryBlock, Recovers, Alternates, NoAlternate, Alternate, ProcedureDeclaration, ProcessDeclaration, Tree}
use Rattle.rb_meaning.specs.Groups.{count_alternates}

abbrev mutual
  -- the recovery blocks of a statement
  pub CommandHasAlternates : Command → Type 0
  CommandHasAlternates (Assignment to value) = Unit {0}
  CommandHasAlternates (Printing items) = Unit {0}
  CommandHasAlternates (Sending channel value) = Unit {0}
  CommandHasAlternates (Receiving channel to otherwise) = OtherwiseHasAlternates otherwise
  CommandHasAlternates (Conditional test body otherwise) = BodyHasAlternates body × OtherwiseHasAlternates otherwise
  CommandHasAlternates (Loop test body) = BodyHasAlternates body
  CommandHasAlternates (Invocation procedure arguments) = Unit {0}
  CommandHasAlternates Failure = Unit {0}
  CommandHasAlternates (Recovering block) = RecoveryHasAlternates block

  pub CommandsHaveAlternates : Commands → Type 0
  CommandsHaveAlternates NoCommand = Unit {0}
  CommandsHaveAlternates (Then first rest) = CommandHasAlternates first × CommandsHaveAlternates rest

  pub BodyHasAlternates : Body → Type 0
  BodyHasAlternates (Scope variables commands) = CommandsHaveAlternates commands

  pub OtherwiseHasAlternates : Otherwise → Type 0
  OtherwiseHasAlternates NoElse = Unit {0}
  OtherwiseHasAlternates (Else body) = BodyHasAlternates body

  pub RecoveryHasAlternates : RecoveryBlock → Type 0
  RecoveryHasAlternates (Recovers number conversation place test bound alternates) =
      (1 ≤ count_alternates alternates) × AlternatesHaveAlternates alternates

  pub AlternatesHaveAlternates : Alternates → Type 0
  AlternatesHaveAlternates NoAlternate = Unit {0}
  AlternatesHaveAlternates (Alternate body others) = BodyHasAlternates body × AlternatesHaveAlternates others

-- a process and its procedures
pub record ProcessHasAlternates (process : ProcessDeclaration) : Type 0 where
  pub procedures : All (λ (procedure : ProcedureDeclaration). BodyHasAlternates procedure.body) process.procedures
  pub commands : CommandsHaveAlternates process.commands

-- Each recovery block of a tree has an alternate, as the grammar asks.
abbrev pub HasAlternates : Tree → Type 0
HasAlternates tree = All ProcessHasAlternates tree.processes
