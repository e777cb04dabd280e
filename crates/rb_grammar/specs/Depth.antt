-- How deep a tree is: how many of its statements and expressions stand inside each other.
use Rattle.std.specs.Prelude.{ℕ, ◌+◌, max, List, [], ◌∷◌}
use Rattle.rb_syntax.specs.Tree.{Expression, Literal, Variable, Former, Minus, Negation, Chained, Quantification, Reference}
use Rattle.rb_syntax.specs.Tree.{Refer, Subscript, Scalar, Element, Links, NoLink, Linked, Printed, Words, Amount, PrintItem}
use Rattle.rb_syntax.specs.Tree.{Command, Assignment, Printing, Sending, Receiving, Conditional, Loop, Invocation, Failure}
use Rattle.rb_syntax.specs.Tree.{Recovering, Commands, NoCommand, Then, Body, Scope, Otherwise, NoElse, Else, RecoveryBlock}
use Rattle.rb_syntax.specs.Tree.{Recovers, Alternates, NoAlternate, Alternate, ProcedureDeclaration, ProcessDeclaration, Tree}

-- the depth of the deepest in a list
abbrev pub deepest : {A : Type 0} → (A → ℕ) → List A → ℕ
deepest f [] = 0
deepest f (x ∷ xs) = max (f x) (deepest f xs)

abbrev mutual
  -- how many expressions stand inside each other
  pub expression_depth : Expression → ℕ
  expression_depth (Literal number) = 1
  expression_depth (Variable reference) = 1 + reference_depth reference
  expression_depth (Former place reference) = 1 + reference_depth reference
  expression_depth (Minus operand) = 1 + expression_depth operand
  expression_depth (Negation operand) = 1 + expression_depth operand
  expression_depth (Chained first links) = 1 + max (expression_depth first) (links_depth links)
  expression_depth (Quantification kind place name low high body) =
      1 + max (expression_depth low) (max (expression_depth high) (expression_depth body))

  -- how many stand inside each other in a place
  pub reference_depth : Reference → ℕ
  reference_depth (Refer name subscript) = subscript_depth subscript

  -- in an index
  pub subscript_depth : Subscript → ℕ
  subscript_depth Scalar = 0
  subscript_depth (Element index) = expression_depth index

  -- in the deepest of the right operands
  pub links_depth : Links → ℕ
  links_depth NoLink = 0
  links_depth (Linked op right links) = max (expression_depth right) (links_depth links)

-- in what is printed
abbrev pub printed_depth : Printed → ℕ
printed_depth (Words text) = 0
printed_depth (Amount value) = expression_depth value

-- in an item
abbrev pub item_depth : PrintItem → ℕ
item_depth item = printed_depth item.what

abbrev mutual
  -- how many statements stand inside each other, and expressions in the last of them
  pub command_depth : Command → ℕ
  command_depth (Assignment to value) = 1 + max (reference_depth to) (expression_depth value)
  command_depth (Printing items) = 1 + deepest item_depth items
  command_depth (Sending channel value) = 1 + expression_depth value
  command_depth (Receiving channel to otherwise) = 1 + max (reference_depth to) (otherwise_depth otherwise)
  command_depth (Conditional test body otherwise) =
      1 + max (expression_depth test) (max (body_depth body) (otherwise_depth otherwise))
  command_depth (Loop test body) = 1 + max (expression_depth test) (body_depth body)
  command_depth (Invocation procedure arguments) = 1 + deepest expression_depth arguments
  command_depth Failure = 1
  command_depth (Recovering block) = 1 + recovery_depth block

  -- in the deepest of some statements
  pub commands_depth : Commands → ℕ
  commands_depth NoCommand = 0
  commands_depth (Then first others) = max (command_depth first) (commands_depth others)

  -- in a block
  pub body_depth : Body → ℕ
  body_depth (Scope variables commands) = commands_depth commands

  -- in an `else`
  pub otherwise_depth : Otherwise → ℕ
  otherwise_depth NoElse = 0
  otherwise_depth (Else body) = body_depth body

  -- in a recovery block, without the statement that it is
  pub recovery_depth : RecoveryBlock → ℕ
  recovery_depth (Recovers number conversation place test bound alternates) =
      max (expression_depth test) (alternates_depth alternates)

  -- in the deepest alternate
  pub alternates_depth : Alternates → ℕ
  alternates_depth NoAlternate = 0
  alternates_depth (Alternate body others) = max (body_depth body) (alternates_depth others)

-- in a procedure
abbrev pub procedure_depth : ProcedureDeclaration → ℕ
procedure_depth procedure = body_depth procedure.body

-- in a process
abbrev pub process_depth : ProcessDeclaration → ℕ
process_depth process = max (deepest procedure_depth process.procedures) (commands_depth process.commands)

-- in a whole tree
abbrev pub depth : Tree → ℕ
depth tree = deepest process_depth tree.processes
