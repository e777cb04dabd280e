-- The places in a source of what its code carries out: each statement has one, but a `fail`.
use Rattle.std.specs.Prelude.{ℕ, ◌+◌, Bool, true, false, cond, List, [], ◌∷◌, ◌++◌, slice_get, Option, Some, None}
use Rattle.std.specs.Option.{unwrap_or}
use Rattle.rb_base.specs.declared.place.Place.{Place}
use Rattle.rb_syntax.specs.Tree.{Expression, Literal, Variable, Former, Minus, Negation, Chained, Quantification, Reference, Refer, PrintItem, Command, Assignment, Printing, Sending, Receiving, Conditional, Loop, Invocation, Failure, Recovering, Commands, NoCommand, Then, Body, Scope, Otherwise, NoElse, Else, RecoveryBlock, Recovers, Alternates, NoAlternate, Alternate, ProcedureDeclaration, ProcessDeclaration, Tree}
use Rattle.rb_code.specs.declared.instr.Instr.{Instr}
use Rattle.rb_code.specs.declared.instr.Instr.TheVariants.{Turn}

-- that of an expression is that of its first name, number or word, behind brackets, signs and `not`
abbrev pub reference_place : Reference → Place
reference_place (Refer name subscript) = name.place

abbrev pub expression_place : Expression → Place
expression_place (Literal number) = number.place
expression_place (Variable reference) = reference_place reference
expression_place (Former place reference) = place
expression_place (Minus operand) = expression_place operand
expression_place (Negation operand) = expression_place operand
expression_place (Chained first links) = expression_place first
expression_place (Quantification kind place name low high body) = place

-- that of a `print` is that of its first item
abbrev pub items_place : List PrintItem → Option Place
items_place [] = None
items_place (item ∷ items) = Some item.place

-- that of a recovery block is that of its word `ensure`
abbrev pub block_place : RecoveryBlock → Place
block_place (Recovers number conversation place test bound alternates) = place

-- that of a statement
abbrev pub command_place : Command → Option Place
command_place (Assignment to value) = Some (reference_place to)
command_place (Printing items) = items_place items
command_place (Sending channel value) = Some channel.place
command_place (Receiving channel to otherwise) = Some channel.place
command_place (Conditional test body otherwise) = Some (expression_place test)
command_place (Loop test body) = Some (expression_place test)
command_place (Invocation procedure arguments) = Some procedure.place
command_place Failure = None
command_place (Recovering block) = Some (block_place block)

-- The places of all turns of statements, in the order of their code. A recovery block has three turns of its own: its entry and the start of
-- an alternate, and behind its alternates the acceptance test.
abbrev mutual
  pub command_turns : Command → List (Option Place)
  command_turns (Assignment to value) = Some (reference_place to) ∷ []
  command_turns (Printing items) = items_place items ∷ []
  command_turns (Sending channel value) = Some channel.place ∷ []
  command_turns (Receiving channel to otherwise) = Some channel.place ∷ otherwise_turns otherwise
  command_turns (Conditional test body otherwise) = Some (expression_place test) ∷ (body_turns body ++ otherwise_turns otherwise)
  command_turns (Loop test body) = Some (expression_place test) ∷ body_turns body
  command_turns (Invocation procedure arguments) = Some procedure.place ∷ []
  command_turns Failure = None ∷ []
  command_turns (Recovering block) = recovery_turns block

  pub commands_turns : Commands → List (Option Place)
  commands_turns NoCommand = []
  commands_turns (Then first rest) = command_turns first ++ commands_turns rest

  pub body_turns : Body → List (Option Place)
  body_turns (Scope variables commands) = commands_turns commands

  pub otherwise_turns : Otherwise → List (Option Place)
  otherwise_turns NoElse = []
  otherwise_turns (Else body) = body_turns body

  pub recovery_turns : RecoveryBlock → List (Option Place)
  recovery_turns (Recovers number conversation place test bound alternates) =
      Some place ∷ Some place ∷ (alternates_turns alternates ++ Some place ∷ [])

  pub alternates_turns : Alternates → List (Option Place)
  alternates_turns NoAlternate = []
  alternates_turns (Alternate body others) = body_turns body ++ alternates_turns others

abbrev pub procedures_turns : List ProcedureDeclaration → List (Option Place)
procedures_turns [] = []
procedures_turns (procedure ∷ others) = body_turns procedure.body ++ procedures_turns others

-- of processes: the body of each, and then its procedures
abbrev pub processes_turns : List ProcessDeclaration → List (Option Place)
processes_turns [] = []
processes_turns (process ∷ others) =
    commands_turns process.commands ++ (procedures_turns process.procedures ++ processes_turns others)

-- where a turn begins
abbrev pub is_turn : Instr → Bool
is_turn Turn = true
is_turn _ = false

-- place number k, if there is one
abbrev pub place_number : List (Option Place) → ℕ → Option Place
place_number places k = unwrap_or (slice_get places k) None

-- The places by address, for instructions before which k turns begin: those of a `turn` are given in order, and others have none.
abbrev pub placed_from : ℕ → List (Option Place) → List Instr → List (Option Place)
placed_from k places [] = []
placed_from k places (instr ∷ instrs) =
    cond (is_turn instr) (place_number places k ∷ placed_from (k + 1) places instrs) (None ∷ placed_from k places instrs)

-- The places that are told of the instructions of a tree's code.
abbrev pub places_told : Tree → List Instr → List (Option Place)
places_told tree instrs = placed_from 0 (processes_turns tree.processes) instrs
