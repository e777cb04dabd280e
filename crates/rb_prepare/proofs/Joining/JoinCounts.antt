-- How often a process joins a conversation: by its uses, and by its recovery blocks.
use Rattle.std.proofs.Common.{◌≡◌, ℕ, ◌+◌, nat_eq, Bool, true, false, cond, ◌&&◌, List, [], ◌∷◌, ◌++◌, Option, Some, None, refl, ap, ◌∙◌, arith}
use Rattle.std.proofs.lemmas.Bool.{eq-eqb}
use Rattle.std.proofs.lemmas.List.Sums.{sum_by-append, sum_by-cons}
use Rattle.std.specs.List.{count_by}
use Rattle.rb_syntax.specs.Tree.{Identifier, Command, Assignment, Printing, Sending, Receiving, Conditional, Loop, Invocation, Failure, Recovering, Commands, NoCommand, Then, Body, Scope, Otherwise, NoElse, Else, RecoveryBlock, Recovers, Alternates, NoAlternate, Alternate, ProcedureDeclaration, Tree}
use Rattle.rb_meaning.specs.Groups.{conversation_number, count_alternates}
use Rattle.rb_meaning.specs.Nesting.{Deed, Joins, Sends, Receives, Spot, Use, inside, joined, outside, uses_in, uses_in_alternates, uses_in_block, uses_in_body, uses_in_command, uses_in_otherwise, uses_in_procedures}
use Rattle.rb_meaning.specs.Step.{commands_of}
use Rattle.rb_prepare.proofs.Walking.Laid.{one_if}
use Rattle.rb_prepare.proofs.Joining.Weights.{Weight, weight_in, weight_in_alternates, weight_in_body, weight_in_command, weight_in_otherwise, weight_in_procedures, weight_in_recovery}

-- a test of those who join alone
abbrev pub if_join : Deed → Bool → Bool
if_join (Joins n) test = test
if_join Sends test = false
if_join Receives test = false

module _ (tree : Tree) (d : ℕ) where
  -- a recovery block is a `converse` for conversation d
  abbrev pub is_of : Option Identifier → Bool
  is_of None = false
  is_of (Some name) = nat_eq (conversation_number tree name.text) d

  abbrev pub joins_it : Weight
  joins_it number conversation = one_if (is_of conversation)

  module _ (q : ℕ) where
    -- a use joins it in process q
    abbrev pub is_join : Use → Bool
    is_join one = if_join one.deed (nat_eq one.spot.process q && nat_eq (conversation_number tree one.name.text) d)

    abbrev pub count_joins : List Use → ℕ
    count_joins uses = count_by is_join uses

    pub count_both : (xs ys : List Use) → count_joins (xs ++ ys) ≡ count_joins xs + count_joins ys
    count_both xs ys = sum_by-append (λ (one : Use). cond (is_join one) 1 0) xs ys

    -- uses weigh as much as recovery blocks
    pub two_parts : (xs ys : List Use) (n k : ℕ) → count_joins xs ≡ n → count_joins ys ≡ k → count_joins (xs ++ ys) ≡ n + k
    two_parts xs ys n k p q = omega (arith, count_both xs ys, p, q)

    join_one : (name : Identifier) (n : ℕ) (spot : Spot) → spot.process ≡ q
        → count_joins (record { name = name; deed = Joins n; spot = spot } ∷ []) ≡ one_if (is_of (Some name))
    join_one name n spot e =
        let one : Use = record { name = name; deed = Joins n; spot = spot } in
        let number = nat_eq (conversation_number tree name.text) d in
        sum_by-cons (λ (each : Use). cond (is_join each) 1 0) one []
        ∙ ap (λ b. cond (b && number) 1 0 + 0) (eq-eqb spot.process q e) ∙ omega arith

    mutual
      command_joins : (spot : Spot) (command : Command) → spot.process ≡ q
          → count_joins (uses_in_command spot command) ≡ weight_in_command joins_it command
      command_joins spot (Assignment to value) e = refl
      command_joins spot (Printing items) e = refl
      command_joins spot (Sending channel value) e =
          sum_by-cons (λ (each : Use). cond (is_join each) 1 0) (record { name = channel; deed = Sends; spot = spot }) []
      command_joins spot (Receiving channel to otherwise) e =
          sum_by-cons (λ (each : Use). cond (is_join each) 1 0) (record { name = channel; deed = Receives; spot = spot })
          (uses_in_otherwise spot otherwise)
          ∙ ap (λ n. 0 + n) (otherwise_joins spot otherwise e) ∙ omega arith
      command_joins spot (Conditional test body otherwise) e =
          two_parts (uses_in_body spot body) (uses_in_otherwise spot otherwise) (weight_in_body joins_it body)
          (weight_in_otherwise joins_it otherwise)
          (body_joins spot body e) (otherwise_joins spot otherwise e)
      command_joins spot (Loop test body) e = body_joins spot body e
      command_joins spot (Invocation procedure arguments) e = refl
      command_joins spot Failure e = refl
      command_joins spot (Recovering block) e = block_joins spot block e

      commands_joins : (spot : Spot) (commands : Commands) → spot.process ≡ q → count_joins (uses_in spot commands) ≡ weight_in joins_it commands
      commands_joins spot NoCommand e = refl
      commands_joins spot (Then first rest) e =
          two_parts (uses_in_command spot first) (uses_in spot rest) (weight_in_command joins_it first) (weight_in joins_it rest)
          (command_joins spot first e) (commands_joins spot rest e)

      body_joins : (spot : Spot) (body : Body) → spot.process ≡ q → count_joins (uses_in_body spot body) ≡ weight_in_body joins_it body
      body_joins spot (Scope variables commands) e = commands_joins spot commands e

      otherwise_joins : (spot : Spot) (otherwise : Otherwise) → spot.process ≡ q
          → count_joins (uses_in_otherwise spot otherwise) ≡ weight_in_otherwise joins_it otherwise
      otherwise_joins spot NoElse e = refl
      otherwise_joins spot (Else body) e = body_joins spot body e

      block_joins : (spot : Spot) (block : RecoveryBlock) → spot.process ≡ q
          → count_joins (uses_in_block spot block) ≡ weight_in_recovery joins_it block
      block_joins spot (Recovers number None place test bound alternates) e =
          two_parts [] (uses_in_alternates (inside None spot) alternates) 0 (weight_in_alternates joins_it alternates) refl
          (alternates_joins (inside None spot) alternates e)
      block_joins spot (Recovers number (Some name) place test bound alternates) e =
          two_parts (joined (Some name) alternates spot) (uses_in_alternates (inside (Some name) spot) alternates) (one_if (is_of (Some name)))
          (weight_in_alternates joins_it alternates) (join_one name (count_alternates alternates) spot e)
          (alternates_joins (inside (Some name) spot) alternates e)

      alternates_joins : (spot : Spot) (alternates : Alternates) → spot.process ≡ q
          → count_joins (uses_in_alternates spot alternates) ≡ weight_in_alternates joins_it alternates
      alternates_joins spot NoAlternate e = refl
      alternates_joins spot (Alternate body others) e =
          two_parts (uses_in_body spot body) (uses_in_alternates spot others) (weight_in_body joins_it body) (weight_in_alternates joins_it others)
          (body_joins spot body e) (alternates_joins spot others e)

    pub main_joins : (commands : Commands) → count_joins (uses_in (outside q false) commands) ≡ weight_in joins_it commands
    main_joins commands = commands_joins (outside q false) commands refl

    procedure_joins : (body : Body) → count_joins (uses_in_body (outside q true) body) ≡ weight_in joins_it (commands_of body)
    procedure_joins (Scope variables commands) = commands_joins (outside q true) commands refl

    pub procedures_joins : (procedures : List ProcedureDeclaration)
        → count_joins (uses_in_procedures q procedures) ≡ weight_in_procedures joins_it procedures
    procedures_joins [] = refl
    procedures_joins (one ∷ others) =
        two_parts (uses_in_body (outside q true) one.body) (uses_in_procedures q others) (weight_in joins_it (commands_of one.body))
        (weight_in_procedures joins_it others) (procedure_joins one.body) (procedures_joins others)
