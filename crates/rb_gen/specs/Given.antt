-- What code of recovery blocks takes from the tree: that they are numbered from a number on, and that the slot of a name of a
-- conversation has the number of that conversation.
use Rattle.std.specs.Prelude.{◌≡◌, ℕ, ◌+◌, List, [], ◌∷◌}
use Rattle.rb_syntax.specs.Tree.{Command, Assignment, Printing, Sending, Receiving, Conditional, Loop, Invocation, Failure, Recovering, Commands, NoCommand, Then, Body, Scope, Otherwise, NoElse, Else, RecoveryBlock, Recovers, Alternates, NoAlternate, Alternate, ProcedureDeclaration, ProcessDeclaration, Tree}
use Rattle.rb_syntax.specs.Numbered.{blocks_in_body, blocks_in_command, blocks_in_procedures, blocks_in_process}
use Rattle.rb_meaning.specs.Groups.{conversation_of}
use Rattle.rb_scope.specs.declared.slot.Slot.{Slot}
use Rattle.rb_draft.specs.Lookups.{joined_of}

abbrev mutual
  pub CommandGiven : Tree → List Slot → ℕ → Command → Type 0
  CommandGiven tree slots n (Assignment to value) = Unit {0}
  CommandGiven tree slots n (Printing items) = Unit {0}
  CommandGiven tree slots n (Sending channel value) = Unit {0}
  CommandGiven tree slots n (Receiving channel to otherwise) = OtherwiseGiven tree slots n otherwise
  CommandGiven tree slots n (Conditional test body otherwise) =
      BodyGiven tree slots n body × OtherwiseGiven tree slots (n + blocks_in_body body) otherwise
  CommandGiven tree slots n (Loop test body) = BodyGiven tree slots n body
  CommandGiven tree slots n (Invocation procedure arguments) = Unit {0}
  CommandGiven tree slots n Failure = Unit {0}
  CommandGiven tree slots n (Recovering block) = RecoveryGiven tree slots n block

  pub CommandsGiven : Tree → List Slot → ℕ → Commands → Type 0
  CommandsGiven tree slots n NoCommand = Unit {0}
  CommandsGiven tree slots n (Then first rest) =
      CommandGiven tree slots n first × CommandsGiven tree slots (n + blocks_in_command first) rest

  pub BodyGiven : Tree → List Slot → ℕ → Body → Type 0
  BodyGiven tree slots n (Scope variables commands) = CommandsGiven tree slots n commands

  pub OtherwiseGiven : Tree → List Slot → ℕ → Otherwise → Type 0
  OtherwiseGiven tree slots n NoElse = Unit {0}
  OtherwiseGiven tree slots n (Else body) = BodyGiven tree slots n body

  pub RecoveryGiven : Tree → List Slot → ℕ → RecoveryBlock → Type 0
  RecoveryGiven tree slots n (Recovers number conversation place test bound alternates) =
      (number ≡ n) × (joined_of slots conversation ≡ conversation_of tree conversation) × AlternatesGiven tree slots (n + 1) alternates

  pub AlternatesGiven : Tree → List Slot → ℕ → Alternates → Type 0
  AlternatesGiven tree slots n NoAlternate = Unit {0}
  AlternatesGiven tree slots n (Alternate body others) =
      BodyGiven tree slots n body × AlternatesGiven tree slots (n + blocks_in_body body) others

abbrev pub ProceduresGiven : Tree → List Slot → ℕ → List ProcedureDeclaration → Type 0
ProceduresGiven tree slots n [] = Unit {0}
ProceduresGiven tree slots n (procedure ∷ others) =
    BodyGiven tree slots n procedure.body × ProceduresGiven tree slots (n + blocks_in_body procedure.body) others

abbrev pub ProcessGiven : Tree → List Slot → ℕ → ProcessDeclaration → Type 0
ProcessGiven tree slots n process =
    ProceduresGiven tree slots n process.procedures × CommandsGiven tree slots (n + blocks_in_procedures process.procedures) process.commands

abbrev pub ProcessesGiven : Tree → List Slot → ℕ → List ProcessDeclaration → Type 0
ProcessesGiven tree slots n [] = Unit {0}
ProcessesGiven tree slots n (process ∷ others) =
    ProcessGiven tree slots n process × ProcessesGiven tree slots (n + blocks_in_process process) others
