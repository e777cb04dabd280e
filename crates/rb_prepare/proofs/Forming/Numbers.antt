-- Where the recovery blocks of a tree are numbered in order, one of them has each number: as many weigh 1, by their number.
use Rattle.std.proofs.Common.{◌≡◌, ℕ, ◌+◌, ◌<◌, nat_eq, nat_lt, Bool, true, false, List, [], ◌∷◌, refl, ap, subst, arith}
use Rattle.std.proofs.lemmas.Bool.Decides.{nat_tests}
use Rattle.rb_syntax.specs.Numbered.{AlternatesNumbered, BodyNumbered, CommandNumbered, CommandsNumbered, IsNumbered, OtherwiseNumbered, ProceduresNumbered, ProcessNumbered, ProcessesNumbered, RecoveryNumbered, blocks_in, blocks_in_alternates, blocks_in_body, blocks_in_command, blocks_in_otherwise, blocks_in_procedures, blocks_in_process, blocks_in_processes, blocks_in_recovery}
use Rattle.rb_syntax.specs.Tree.{Command, Assignment, Printing, Sending, Receiving, Conditional, Loop, Invocation, Failure, Recovering, Commands, NoCommand, Then, Body, Scope, Otherwise, NoElse, Else, RecoveryBlock, Recovers, Alternates, NoAlternate, Alternate, ProcedureDeclaration, ProcessDeclaration, Tree}
use Rattle.rb_meaning.specs.Step.{commands_of}
use Rattle.rb_prepare.proofs.Walking.Laid.{one_if}
use Rattle.rb_prepare.proofs.Joining.Weights.{Weight, weight_in, weight_in_alternates, weight_in_body, weight_in_command, weight_in_otherwise, weight_in_procedures, weight_in_process, weight_in_processes, weight_in_recovery}

module _ (b : ℕ) where
  -- a recovery block weighs 1 if it has this number
  abbrev pub has_number : Weight
  has_number number conversation = one_if (nat_eq number b)

  -- what is numbered from n, with k blocks, weighs so much
  abbrev Tells : ℕ → ℕ → ℕ → Type 0
  Tells x n k = x + one_if (nat_lt b n) ≡ one_if (nat_lt b (n + k))

  none : (n : ℕ) → Tells 0 n 0
  none n = let e : n ≡ n + 0 = omega arith in omega (arith, ap (λ m. one_if (nat_lt b m)) e)

  both : (x y n j k : ℕ) → Tells x n j → Tells y (n + j) k → Tells (x + y) n (j + k)
  both x y n j k p q =
      let e : (n + j) + k ≡ n + (j + k) = omega arith in
      omega (arith, p, q, ap (λ m. one_if (nat_lt b m)) e)

  single : (number n : ℕ) → number ≡ n → Tells (one_if (nat_eq number b)) n 1
  single number n e = by (nat_eq number b) refl (nat_lt b n) refl (nat_lt b (n + 1)) refl
    where
      by : (p : Bool) → nat_eq number b ≡ p → (q : Bool) → nat_lt b n ≡ q → (r : Bool) → nat_lt b (n + 1) ≡ r → one_if p + one_if q ≡ one_if r
      by true f true g r h = absurd (grind (arith, nat_tests))
      by true f false g true h = refl
      by true f false g false h = absurd (grind (arith, nat_tests))
      by false f true g true h = refl
      by false f true g false h = absurd (grind (arith, nat_tests))
      by false f false g true h = absurd (grind (arith, nat_tests))
      by false f false g false h = refl

  mutual
    command_numbered : (n : ℕ) (command : Command) → CommandNumbered n command
        → Tells (weight_in_command has_number command) n (blocks_in_command command)
    command_numbered n (Assignment to value) h = none n
    command_numbered n (Printing items) h = none n
    command_numbered n (Sending channel value) h = none n
    command_numbered n (Receiving channel to otherwise) h = otherwise_numbered n otherwise h
    command_numbered n (Conditional test body otherwise) h =
        both (weight_in_body has_number body) (weight_in_otherwise has_number otherwise) n (blocks_in_body body) (blocks_in_otherwise otherwise)
        (body_numbered n body h.0) (otherwise_numbered (n + blocks_in_body body) otherwise h.1)
    command_numbered n (Loop test body) h = body_numbered n body h
    command_numbered n (Invocation procedure arguments) h = none n
    command_numbered n Failure h = none n
    command_numbered n (Recovering block) h = recovery_numbered n block h

    commands_numbered : (n : ℕ) (commands : Commands) → CommandsNumbered n commands → Tells (weight_in has_number commands) n (blocks_in commands)
    commands_numbered n NoCommand h = none n
    commands_numbered n (Then first rest) h =
        both (weight_in_command has_number first) (weight_in has_number rest) n (blocks_in_command first) (blocks_in rest)
        (command_numbered n first h.0) (commands_numbered (n + blocks_in_command first) rest h.1)

    body_numbered : (n : ℕ) (body : Body) → BodyNumbered n body → Tells (weight_in_body has_number body) n (blocks_in_body body)
    body_numbered n (Scope variables commands) h = commands_numbered n commands h

    otherwise_numbered : (n : ℕ) (otherwise : Otherwise) → OtherwiseNumbered n otherwise
        → Tells (weight_in_otherwise has_number otherwise) n (blocks_in_otherwise otherwise)
    otherwise_numbered n NoElse h = none n
    otherwise_numbered n (Else body) h = body_numbered n body h

    recovery_numbered : (n : ℕ) (block : RecoveryBlock) → RecoveryNumbered n block
        → Tells (weight_in_recovery has_number block) n (blocks_in_recovery block)
    recovery_numbered n (Recovers number conversation place test bound alternates) h =
        both (has_number number conversation) (weight_in_alternates has_number alternates) n 1 (blocks_in_alternates alternates)
        (single number n h.0) (alternates_numbered (n + 1) alternates h.1)

    alternates_numbered : (n : ℕ) (alternates : Alternates) → AlternatesNumbered n alternates
        → Tells (weight_in_alternates has_number alternates) n (blocks_in_alternates alternates)
    alternates_numbered n NoAlternate h = none n
    alternates_numbered n (Alternate body others) h =
        both (weight_in_body has_number body) (weight_in_alternates has_number others) n (blocks_in_body body) (blocks_in_alternates others)
        (body_numbered n body h.0) (alternates_numbered (n + blocks_in_body body) others h.1)

  procedure_numbered : (n : ℕ) (body : Body) → BodyNumbered n body → Tells (weight_in has_number (commands_of body)) n (blocks_in_body body)
  procedure_numbered n (Scope variables commands) h = commands_numbered n commands h

  procedures_numbered : (n : ℕ) (procedures : List ProcedureDeclaration) → ProceduresNumbered n procedures
      → Tells (weight_in_procedures has_number procedures) n (blocks_in_procedures procedures)
  procedures_numbered n [] h = none n
  procedures_numbered n (one ∷ others) h =
      both (weight_in has_number (commands_of one.body)) (weight_in_procedures has_number others) n
      (blocks_in_body one.body) (blocks_in_procedures others)
      (procedure_numbered n one.body h.0) (procedures_numbered (n + blocks_in_body one.body) others h.1)

  process_numbered : (n : ℕ) (process : ProcessDeclaration) → ProcessNumbered n process
      → Tells (weight_in_process has_number process) n (blocks_in_process process)
  process_numbered n process h =
      let x = weight_in_procedures has_number process.procedures in let y = weight_in has_number process.commands in
      let e : x + y ≡ y + x = omega arith in
      subst (λ z. Tells z n (blocks_in_process process)) e
      (both x y n (blocks_in_procedures process.procedures) (blocks_in process.commands) (procedures_numbered n process.procedures h.0)
      (commands_numbered (n + blocks_in_procedures process.procedures) process.commands h.1))

  processes_numbered : (n : ℕ) (processes : List ProcessDeclaration) → ProcessesNumbered n processes
      → Tells (weight_in_processes has_number processes) n (blocks_in_processes processes)
  processes_numbered n [] h = none n
  processes_numbered n (one ∷ others) h =
      both (weight_in_process has_number one) (weight_in_processes has_number others) n (blocks_in_process one) (blocks_in_processes others)
      (process_numbered n one h.0) (processes_numbered (n + blocks_in_process one) others h.1)

  -- one recovery block of a tree has each number below that of all
  pub one_of_each : (tree : Tree) → IsNumbered tree → b < tree.blocks → weight_in_processes has_number tree.processes ≡ 1
  one_of_each tree numbered below = by (nat_lt b 0) refl (nat_lt b (0 + blocks_in_processes tree.processes)) refl
    where
      all : Tells (weight_in_processes has_number tree.processes) 0 (blocks_in_processes tree.processes)
      all = processes_numbered 0 tree.processes numbered.processes

      by : (p : Bool) → nat_lt b 0 ≡ p → (q : Bool) → nat_lt b (0 + blocks_in_processes tree.processes) ≡ q
          → weight_in_processes has_number tree.processes ≡ 1
      by true e q f = absurd (grind (arith, nat_tests))
      by false e false f = absurd (let same = numbered.blocks in grind (arith, nat_tests))
      by false e true f = omega (arith, all, ap one_if e, ap one_if f)
