-- The recovery blocks of a tree whose recovery blocks count up from 0 as they are told are numbered part by part.
use Rattle.std.proofs.Common.{◌≡◌, ℕ, ◌+◌, List, [], ◌∷◌, length, map, sym, subst, ◌∙◌, arith}
use Rattle.rb_base.specs.declared.place.Place.{Place}
use Rattle.rb_grammar.specs.Laws.{CountUp}
use Rattle.rb_grammar.specs.Order.{Recovery, alternates_told, body_told, command_told, commands_told, each, expression_told, otherwise_told, procedure_told, process_told, recoveries_alone, recovery_at, recovery_told}
use Rattle.rb_grammar.proofs.Numbering.Numbered.{recoveries_count_up, no_names}
use Rattle.rb_syntax.specs.Numbered.{AlternatesNumbered, BodyNumbered, CommandNumbered, CommandsNumbered, OtherwiseNumbered, ProceduresNumbered, ProcessNumbered, ProcessesNumbered, RecoveryNumbered, blocks_in, blocks_in_alternates, blocks_in_body, blocks_in_command, blocks_in_otherwise, blocks_in_procedures, blocks_in_process, blocks_in_processes, blocks_in_recovery}
use Rattle.rb_syntax.specs.Tree.{Command, Assignment, Printing, Sending, Receiving, Conditional, Loop, Invocation, Failure, Recovering, Commands, NoCommand, Then, Body, Scope, Otherwise, NoElse, Else, RecoveryBlock, Recovers, Alternates, NoAlternate, Alternate, ProcedureDeclaration, ProcessDeclaration}
use Rattle.rb_judge.specs.Laws.{ParsedAreNumbered}
use Rattle.rb_judge.proofs.PartsWithoutBlocks.{no_arguments, no_conversation, no_declarations, no_expression, no_items, no_reference}

-- the numbers of recovery blocks
abbrev numbers : List Recovery → List ℕ
numbers recoveries = map (λ one. one.number) recoveries

-- Of a part with k recovery blocks these are told, and then the rest; and where all count up from n, the part is numbered so, and
-- the rest counts up behind it.
record Splits (n k : ℕ) (P : Type 0) (told rest : List Recovery) : Type 0 where
  numbered : CountUp n (numbers told) → P
  later : CountUp n (numbers told) → CountUp (n + k) (numbers rest)
  many : length told ≡ k + length rest

-- a part without recovery blocks
nothing : (n : ℕ) (rest : List Recovery) → Splits n 0 (Unit {0}) rest rest
nothing n rest = record {
  numbered = λ c. tt;
  later = λ c. let e : n ≡ n + 0 = omega arith in subst (λ m. CountUp m (numbers rest)) e c;
  many = omega arith;
}

-- such a part before others
behind : {n k : ℕ} {P : Type 0} {told other rest : List Recovery} → told ≡ other → Splits n k P other rest → Splits n k P told rest
behind {n} {k} {P} {told} {other} {rest} e s = subst (λ all. Splits n k P all rest) (sym e) s

flat : (n : ℕ) {told rest : List Recovery} → told ≡ rest → Splits n 0 (Unit {0}) told rest
flat n {told = told} {rest = rest} e = behind e (nothing n rest)

-- two parts
both : {n j k : ℕ} {P Q : Type 0} {told middle rest : List Recovery} → Splits n j P told middle → Splits (n + j) k Q middle rest
    → Splits n (j + k) (P × Q) told rest
both {n = n} {j = j} {k = k} {rest = rest} s t = record {
  numbered = λ c. (s.numbered c, t.numbered (s.later c));
  later = λ c. let e : (n + j) + k ≡ n + (j + k) = omega arith in subst (λ m. CountUp m (numbers rest)) e (t.later (s.later c));
  many = let first = s.many in let second = t.many in omega arith;
}

-- a recovery block, and then those in it
within : (number : ℕ) (place : Place) {n k : ℕ} {P : Type 0} {told rest : List Recovery} → Splits (n + 1) k P told rest
    → Splits n (1 + k) ((number ≡ n) × P) (recovery_at number place ∷ told) rest
within number place {n = n} {k = k} {rest = rest} s = record {
  numbered = λ c. (c.0, s.numbered c.1);
  later = λ c. let e : (n + 1) + k ≡ n + (1 + k) = omega arith in subst (λ m. CountUp m (numbers rest)) e (s.later c.1);
  many = let inside = s.many in omega arith;
}

mutual
  command_splits : (n : ℕ) (command : Command) (rest : List Recovery)
      → Splits n (blocks_in_command command) (CommandNumbered n command) (command_told recoveries_alone command rest) rest
  command_splits n (Assignment to value) rest = flat n (no_reference to (expression_told recoveries_alone value rest) ∙ no_expression value rest)
  command_splits n (Printing items) rest = flat n (no_items items rest)
  command_splits n (Sending channel value) rest = flat n (no_expression value rest)
  command_splits n (Receiving channel to otherwise) rest =
      behind (no_reference to (otherwise_told recoveries_alone otherwise rest)) (otherwise_splits n otherwise rest)
  command_splits n (Conditional test body otherwise) rest =
      behind (no_expression test (body_told recoveries_alone body (otherwise_told recoveries_alone otherwise rest)))
      (both (body_splits n body (otherwise_told recoveries_alone otherwise rest)) (otherwise_splits (n + blocks_in_body body) otherwise rest))
  command_splits n (Loop test body) rest = behind (no_expression test (body_told recoveries_alone body rest)) (body_splits n body rest)
  command_splits n (Invocation procedure arguments) rest = flat n (no_arguments arguments rest)
  command_splits n Failure rest = nothing n rest
  command_splits n (Recovering block) rest = recovery_splits n block rest

  commands_splits : (n : ℕ) (commands : Commands) (rest : List Recovery)
      → Splits n (blocks_in commands) (CommandsNumbered n commands) (commands_told recoveries_alone commands rest) rest
  commands_splits n NoCommand rest = nothing n rest
  commands_splits n (Then first others) rest =
      both (command_splits n first (commands_told recoveries_alone others rest)) (commands_splits (n + blocks_in_command first) others rest)

  body_splits : (n : ℕ) (body : Body) (rest : List Recovery)
      → Splits n (blocks_in_body body) (BodyNumbered n body) (body_told recoveries_alone body rest) rest
  body_splits n (Scope variables commands) rest =
      behind (no_declarations variables (commands_told recoveries_alone commands rest)) (commands_splits n commands rest)

  otherwise_splits : (n : ℕ) (otherwise : Otherwise) (rest : List Recovery)
      → Splits n (blocks_in_otherwise otherwise) (OtherwiseNumbered n otherwise) (otherwise_told recoveries_alone otherwise rest) rest
  otherwise_splits n NoElse rest = nothing n rest
  otherwise_splits n (Else body) rest = body_splits n body rest

  recovery_splits : (n : ℕ) (block : RecoveryBlock) (rest : List Recovery)
      → Splits n (blocks_in_recovery block) (RecoveryNumbered n block) (recovery_told recoveries_alone block rest) rest
  recovery_splits n (Recovers number conversation place test bound alternates) rest =
      behind (no_conversation conversation
      (recovery_at number place ∷ expression_told recoveries_alone test (alternates_told recoveries_alone alternates rest)))
      (within number place
      (behind (no_expression test (alternates_told recoveries_alone alternates rest)) (alternates_splits (n + 1) alternates rest)))

  alternates_splits : (n : ℕ) (alternates : Alternates) (rest : List Recovery)
      → Splits n (blocks_in_alternates alternates) (AlternatesNumbered n alternates) (alternates_told recoveries_alone alternates rest) rest
  alternates_splits n NoAlternate rest = nothing n rest
  alternates_splits n (Alternate body others) rest =
      both (body_splits n body (alternates_told recoveries_alone others rest)) (alternates_splits (n + blocks_in_body body) others rest)

procedures_splits : (n : ℕ) (procedures : List ProcedureDeclaration) (rest : List Recovery)
    → Splits n (blocks_in_procedures procedures) (ProceduresNumbered n procedures) (each (procedure_told recoveries_alone) procedures rest) rest
procedures_splits n [] rest = nothing n rest
procedures_splits n (procedure ∷ others) rest =
    let later : List Recovery = each (procedure_told recoveries_alone) others rest in
    behind (no_names procedure.parameters (body_told recoveries_alone procedure.body later))
    (both (body_splits n procedure.body later) (procedures_splits (n + blocks_in_body procedure.body) others rest))

process_splits : (n : ℕ) (process : ProcessDeclaration) (rest : List Recovery)
    → Splits n (blocks_in_process process) (ProcessNumbered n process) (process_told recoveries_alone process rest) rest
process_splits n process rest =
    let commands : List Recovery = commands_told recoveries_alone process.commands rest in
    behind (no_declarations process.variables (each (procedure_told recoveries_alone) process.procedures commands))
    (both (procedures_splits n process.procedures commands) (commands_splits (n + blocks_in_procedures process.procedures) process.commands rest))

processes_splits : (n : ℕ) (processes : List ProcessDeclaration) (rest : List Recovery)
    → Splits n (blocks_in_processes processes) (ProcessesNumbered n processes) (each (process_told recoveries_alone) processes rest) rest
processes_splits n [] rest = nothing n rest
processes_splits n (process ∷ others) rest =
    both (process_splits n process (each (process_told recoveries_alone) others rest)) (processes_splits (n + blocks_in_process process) others rest)

pub parsed_are_numbered : ParsedAreNumbered
parsed_are_numbered source tree h =
    let counted = recoveries_count_up h.tokens tree h.derived in
    let parts = processes_splits 0 tree.processes [] in
    record {
      processes = parts.numbered counted.0;
      blocks = let told = counted.1 in let many = parts.many in omega arith;
    }
