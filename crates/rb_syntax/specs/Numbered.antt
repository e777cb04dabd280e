-- Recovery blocks are numbered from 0 in the order of the text, told part by part: how many a part has, and that they are numbered
-- from a number on.
use Rattle.std.specs.Prelude.{◌≡◌, ℕ, ◌+◌, List, [], ◌∷◌}
use Rattle.rb_syntax.specs.Tree.{Command, Assignment, Printing, Sending, Receiving, Conditional, Loop, Invocation, Failure, Recovering, Commands, NoCommand, Then, Body, Scope, Otherwise, NoElse, Else, RecoveryBlock, Recovers, Alternates, NoAlternate, Alternate, ProcedureDeclaration, ProcessDeclaration, Tree}

abbrev mutual
  -- how many recovery blocks a statement has
  pub blocks_in_command : Command → ℕ
  blocks_in_command (Assignment to value) = 0
  blocks_in_command (Printing items) = 0
  blocks_in_command (Sending channel value) = 0
  blocks_in_command (Receiving channel to otherwise) = blocks_in_otherwise otherwise
  blocks_in_command (Conditional test body otherwise) = blocks_in_body body + blocks_in_otherwise otherwise
  blocks_in_command (Loop test body) = blocks_in_body body
  blocks_in_command (Invocation procedure arguments) = 0
  blocks_in_command Failure = 0
  blocks_in_command (Recovering block) = blocks_in_recovery block

  pub blocks_in : Commands → ℕ
  blocks_in NoCommand = 0
  blocks_in (Then first rest) = blocks_in_command first + blocks_in rest

  pub blocks_in_body : Body → ℕ
  blocks_in_body (Scope variables commands) = blocks_in commands

  pub blocks_in_otherwise : Otherwise → ℕ
  blocks_in_otherwise NoElse = 0
  blocks_in_otherwise (Else body) = blocks_in_body body

  -- a recovery block counts itself
  pub blocks_in_recovery : RecoveryBlock → ℕ
  blocks_in_recovery (Recovers number conversation place test bound alternates) = 1 + blocks_in_alternates alternates

  pub blocks_in_alternates : Alternates → ℕ
  blocks_in_alternates NoAlternate = 0
  blocks_in_alternates (Alternate body others) = blocks_in_body body + blocks_in_alternates others

-- how many the procedures of a process have, and the process, and processes
abbrev pub blocks_in_procedures : List ProcedureDeclaration → ℕ
blocks_in_procedures [] = 0
blocks_in_procedures (procedure ∷ others) = blocks_in_body procedure.body + blocks_in_procedures others

abbrev pub blocks_in_process : ProcessDeclaration → ℕ
blocks_in_process process = blocks_in_procedures process.procedures + blocks_in process.commands

abbrev pub blocks_in_processes : List ProcessDeclaration → ℕ
blocks_in_processes [] = 0
blocks_in_processes (process ∷ others) = blocks_in_process process + blocks_in_processes others

abbrev mutual
  -- the recovery blocks of a statement are numbered from n on
  pub CommandNumbered : ℕ → Command → Type 0
  CommandNumbered n (Assignment to value) = Unit {0}
  CommandNumbered n (Printing items) = Unit {0}
  CommandNumbered n (Sending channel value) = Unit {0}
  CommandNumbered n (Receiving channel to otherwise) = OtherwiseNumbered n otherwise
  CommandNumbered n (Conditional test body otherwise) = BodyNumbered n body × OtherwiseNumbered (n + blocks_in_body body) otherwise
  CommandNumbered n (Loop test body) = BodyNumbered n body
  CommandNumbered n (Invocation procedure arguments) = Unit {0}
  CommandNumbered n Failure = Unit {0}
  CommandNumbered n (Recovering block) = RecoveryNumbered n block

  pub CommandsNumbered : ℕ → Commands → Type 0
  CommandsNumbered n NoCommand = Unit {0}
  CommandsNumbered n (Then first rest) = CommandNumbered n first × CommandsNumbered (n + blocks_in_command first) rest

  pub BodyNumbered : ℕ → Body → Type 0
  BodyNumbered n (Scope variables commands) = CommandsNumbered n commands

  pub OtherwiseNumbered : ℕ → Otherwise → Type 0
  OtherwiseNumbered n NoElse = Unit {0}
  OtherwiseNumbered n (Else body) = BodyNumbered n body

  -- a recovery block comes before those in its alternates
  pub RecoveryNumbered : ℕ → RecoveryBlock → Type 0
  RecoveryNumbered n (Recovers number conversation place test bound alternates) = (number ≡ n) × AlternatesNumbered (n + 1) alternates

  pub AlternatesNumbered : ℕ → Alternates → Type 0
  AlternatesNumbered n NoAlternate = Unit {0}
  AlternatesNumbered n (Alternate body others) = BodyNumbered n body × AlternatesNumbered (n + blocks_in_body body) others

-- the procedures of a process, before its own statements, as they stand in a text
abbrev pub ProceduresNumbered : ℕ → List ProcedureDeclaration → Type 0
ProceduresNumbered n [] = Unit {0}
ProceduresNumbered n (procedure ∷ others) = BodyNumbered n procedure.body × ProceduresNumbered (n + blocks_in_body procedure.body) others

abbrev pub ProcessNumbered : ℕ → ProcessDeclaration → Type 0
ProcessNumbered n process =
    ProceduresNumbered n process.procedures × CommandsNumbered (n + blocks_in_procedures process.procedures) process.commands

abbrev pub ProcessesNumbered : ℕ → List ProcessDeclaration → Type 0
ProcessesNumbered n [] = Unit {0}
ProcessesNumbered n (process ∷ others) = ProcessNumbered n process × ProcessesNumbered (n + blocks_in_process process) others

-- The recovery blocks of a tree are numbered from 0 on, and the tree tells how many there are.
pub record IsNumbered (tree : Tree) : Type 0 where
  pub processes : ProcessesNumbered 0 tree.processes
  pub blocks : tree.blocks ≡ blocks_in_processes tree.processes
