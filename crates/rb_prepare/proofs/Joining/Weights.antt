-- What the recovery blocks of a part of a tree weigh together, by a weight of each.
use Rattle.std.proofs.Common.{ℕ, ◌+◌, List, [], ◌∷◌, Option}
use Rattle.rb_syntax.specs.Tree.{Identifier, Command, Assignment, Printing, Sending, Receiving, Conditional, Loop, Invocation, Failure, Recovering, Commands, NoCommand, Then, Body, Scope, Otherwise, NoElse, Else, RecoveryBlock, Recovers, Alternates, NoAlternate, Alternate, ProcedureDeclaration, ProcessDeclaration}
use Rattle.rb_meaning.specs.Step.{commands_of}

-- the weight of a recovery block, by its number and its conversation
abbrev pub Weight : Type 0
Weight = ℕ → Option Identifier → ℕ

abbrev mutual
  pub weight_in_command : Weight → Command → ℕ
  weight_in_command w (Assignment to value) = 0
  weight_in_command w (Printing items) = 0
  weight_in_command w (Sending channel value) = 0
  weight_in_command w (Receiving channel to otherwise) = weight_in_otherwise w otherwise
  weight_in_command w (Conditional test body otherwise) = weight_in_body w body + weight_in_otherwise w otherwise
  weight_in_command w (Loop test body) = weight_in_body w body
  weight_in_command w (Invocation procedure arguments) = 0
  weight_in_command w Failure = 0
  weight_in_command w (Recovering block) = weight_in_recovery w block

  pub weight_in : Weight → Commands → ℕ
  weight_in w NoCommand = 0
  weight_in w (Then first rest) = weight_in_command w first + weight_in w rest

  pub weight_in_body : Weight → Body → ℕ
  weight_in_body w (Scope variables commands) = weight_in w commands

  pub weight_in_otherwise : Weight → Otherwise → ℕ
  weight_in_otherwise w NoElse = 0
  weight_in_otherwise w (Else body) = weight_in_body w body

  pub weight_in_recovery : Weight → RecoveryBlock → ℕ
  weight_in_recovery w (Recovers number conversation place test bound alternates) = w number conversation + weight_in_alternates w alternates

  pub weight_in_alternates : Weight → Alternates → ℕ
  weight_in_alternates w NoAlternate = 0
  weight_in_alternates w (Alternate body others) = weight_in_body w body + weight_in_alternates w others

abbrev pub weight_in_procedures : Weight → List ProcedureDeclaration → ℕ
weight_in_procedures w [] = 0
weight_in_procedures w (procedure ∷ others) = weight_in w (commands_of procedure.body) + weight_in_procedures w others

-- its statements come before its procedures, as in code
abbrev pub weight_in_process : Weight → ProcessDeclaration → ℕ
weight_in_process w process = weight_in w process.commands + weight_in_procedures w process.procedures

abbrev pub weight_in_processes : Weight → List ProcessDeclaration → ℕ
weight_in_processes w [] = 0
weight_in_processes w (process ∷ others) = weight_in_process w process + weight_in_processes w others
