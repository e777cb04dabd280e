-- The sites of a tree: all in it that a rule of scopes or limits speaks of, each with what the rule asks to know.
use Rattle.std.specs.Prelude.{ℕ, ◌+◌, Bool, true, false, List, [], ◌∷◌, ◌++◌, length, Option, Some, None}
use Rattle.std.specs.List.{flat_map}
use Rattle.rb_base.specs.declared.limits.TheConstants.{MOST_CONNECTIONS, MOST_ITEMS, MOST_PARAMETERS}
use Rattle.rb_base.specs.declared.place.Place.{Place}
use Rattle.rb_base.specs.declared.edition.Edition.{Edition}
use Rattle.rb_base.specs.Limits.{most_processes, most_words}
use Rattle.rb_syntax.specs.declared.expression.Number.{Number}
use Rattle.rb_syntax.specs.Tree.{Identifier, Expression, Literal, Variable, Former, Minus, Negation, Chained, Quantification, Reference, Refer, Scalar, Element, Links, NoLink, Linked, Declaration, Printed, Words, Amount, Command, Assignment, Printing, Sending, Receiving, Conditional, Loop, Invocation, Failure, Recovering, Commands, NoCommand, Then, Body, Scope, Otherwise, NoElse, Else, RecoveryBlock, Recovers, Alternates, NoAlternate, Alternate, ChannelDeclaration, ConversationDeclaration, ProcedureDeclaration, ProcessDeclaration, Tree}
use Rattle.rb_scope.specs.Scopes.{Declared, declared, procedure_scope, process_scope, program_scope, variables_from, variables_in, words_in, words_of}
use Rattle.rb_scope.specs.declared.slot.Slot.TheVariants.{Local, Counter}
use Rattle.rb_scope.specs.declared.want.Want.{Want}
use Rattle.rb_scope.specs.declared.want.Want.TheVariants.{AProcess, AChannel, AConversation, AProcedure, AScalar, AnArray, AValue}

pub data Site : Type 0 where
  -- a name is declared in its scope, in which these declarations stand before it
  Declares : (earlier : List Declared) (one : Declared) → Site
  -- a name is used, with these scopes around it, the innermost first
  Uses : (want : Want) (name : Identifier) (scopes : List (List Declared)) → Site
  -- a procedure is called with so many arguments
  Calls : (name : Identifier) (arguments : ℕ) (scopes : List (List Declared)) → Site
  -- `prior` stands in an acceptance test, or outside all
  LooksBack : (place : Place) (in_test : Bool) → Site
  -- an array has this size
  Sizes : (size : Number) → Site
  -- a list that may have so many at most goes on, with so many before
  Lists : (most before : ℕ) (place : Place) → Site
  -- a channel has this size
  Channels : (size : Number) → Site
  -- a recovery block has this turn bound
  Bounds : (bound : Number) → Site
  -- the variables of a process may take so many words at most; this one takes some, with so many before
  Takes : (most before words : ℕ) (place : Place) → Site
  -- a quantified expression stands within so many others
  Quantifies : (around : ℕ) (place : Place) → Site

-- Where an expression or a statement stands: the scopes around it, the innermost first; how many words of the running call
-- their variables take; how many quantified expressions are around it; and whether it is in an acceptance test.
pub record Spot : Type 0 where
  pub scopes : List (List Declared)
  pub taken : ℕ
  pub quantified : ℕ
  pub in_test : Bool

-- a spot within one scope more, whose variables take so many words
abbrev pub within : List Declared → ℕ → Spot → Spot
within scope words spot = record spot { scopes = scope ∷ spot.scopes; taken = spot.taken + words }

-- a spot within one quantified expression more
abbrev pub quantified : Spot → Spot
quantified spot = record spot { quantified = spot.quantified + 1 }

-- the name of a quantified expression stands for a counter, by the number of those around it
abbrev pub counter : Identifier → Spot → Declared
counter name spot = declared name (Counter spot.quantified)

-- a spot in an acceptance test
abbrev pub tested : Spot → Spot
tested spot = record spot { in_test = true }

-- the declarations of a scope, each after those before it
abbrev pub scope_sites : List Declared → List Declared → List Site
scope_sites earlier [] = []
scope_sites earlier (one ∷ others) = Declares earlier one ∷ scope_sites (earlier ++ one ∷ []) others

-- the places of a list that may have so many at most, of which so many came before
abbrev pub list_sites : {A : Type 0} → (A → Place) → ℕ → ℕ → List A → List Site
list_sites place most before [] = []
list_sites place most before (one ∷ others) = Lists most before (place one) ∷ list_sites place most (before + 1) others

-- the sizes of arrays
abbrev pub size_sites : Option Number → List Site
size_sites None = []
size_sites (Some number) = Sizes number ∷ []

abbrev mutual
  -- an expression
  pub expression_sites : Spot → Expression → List Site
  expression_sites spot (Literal number) = []
  expression_sites spot (Variable reference) = reference_sites spot AValue reference
  expression_sites spot (Former place reference) = LooksBack place spot.in_test ∷ reference_sites spot AScalar reference
  expression_sites spot (Minus operand) = expression_sites spot operand
  expression_sites spot (Negation operand) = expression_sites spot operand
  expression_sites spot (Chained first links) = expression_sites spot first ++ links_sites spot links
  expression_sites spot (Quantification kind place name low high body) =
      Quantifies spot.quantified place ∷ Declares [] (counter name spot)
      ∷ expression_sites (quantified spot) low
      ++ (expression_sites (quantified spot) high
      ++ expression_sites (within (counter name spot ∷ []) 0 (quantified spot)) body)

  -- a place, which is wanted so where it has no index
  pub reference_sites : Spot → Want → Reference → List Site
  reference_sites spot want (Refer name Scalar) = Uses want name spot.scopes ∷ []
  reference_sites spot want (Refer name (Element index)) = Uses AnArray name spot.scopes ∷ expression_sites spot index

  -- right operands
  pub links_sites : Spot → Links → List Site
  links_sites spot NoLink = []
  links_sites spot (Linked op right links) = expression_sites spot right ++ links_sites spot links

-- what is printed
abbrev pub printed_sites : Spot → Printed → List Site
printed_sites spot (Words text) = []
printed_sites spot (Amount value) = expression_sites spot value

-- the conversation of a `converse`
abbrev pub joined_sites : Spot → Option Identifier → List Site
joined_sites spot None = []
joined_sites spot (Some name) = Uses AConversation name spot.scopes ∷ []

abbrev mutual
  -- a statement
  pub command_sites : Spot → Command → List Site
  command_sites spot (Assignment to value) = reference_sites spot AScalar to ++ expression_sites spot value
  command_sites spot (Printing items) =
      list_sites (λ item. item.place) MOST_ITEMS 0 items ++ flat_map (λ item. printed_sites spot item.what) items
  command_sites spot (Sending channel value) = Uses AChannel channel spot.scopes ∷ expression_sites spot value
  command_sites spot (Receiving channel to otherwise) =
      Uses AChannel channel spot.scopes ∷ reference_sites spot AScalar to ++ otherwise_sites spot otherwise
  command_sites spot (Conditional test body otherwise) =
      expression_sites spot test ++ (body_sites spot body ++ otherwise_sites spot otherwise)
  command_sites spot (Loop test body) = expression_sites spot test ++ body_sites spot body
  command_sites spot (Invocation procedure arguments) =
      Uses AProcedure procedure spot.scopes ∷ Calls procedure (length arguments) spot.scopes ∷ flat_map (expression_sites spot) arguments
  command_sites spot Failure = []
  command_sites spot (Recovering block) = recovery_sites spot block

  -- statements
  pub commands_sites : Spot → Commands → List Site
  commands_sites spot NoCommand = []
  commands_sites spot (Then first rest) = command_sites spot first ++ commands_sites spot rest

  -- a block, which is a scope of its own
  pub body_sites : Spot → Body → List Site
  body_sites spot (Scope variables commands) =
      scope_sites [] (variables_from Local spot.taken variables)
      ++ (flat_map (λ one. size_sites one.size) variables
      ++ commands_sites (within (variables_from Local spot.taken variables) (words_in variables) spot) commands)

  -- an `else`
  pub otherwise_sites : Spot → Otherwise → List Site
  otherwise_sites spot NoElse = []
  otherwise_sites spot (Else body) = body_sites spot body

  -- a recovery block, whose test stands outside its alternates
  pub recovery_sites : Spot → RecoveryBlock → List Site
  recovery_sites spot (Recovers number conversation place test bound alternates) =
      joined_sites spot conversation ++ (expression_sites (tested spot) test ++ (Bounds bound ∷ alternates_sites spot alternates))

  -- alternates
  pub alternates_sites : Spot → Alternates → List Site
  alternates_sites spot NoAlternate = []
  alternates_sites spot (Alternate body others) = body_sites spot body ++ alternates_sites spot others

-- the statements of a block
abbrev pub commands_in : Body → Commands
commands_in (Scope variables commands) = commands

-- the spot of the whole program
abbrev pub in_program : Tree → Spot
in_program tree = record { scopes = program_scope tree ∷ []; taken = 0; quantified = 0; in_test = false }

-- a procedure, whose parameters and own variables are one scope
abbrev pub procedure_sites : Spot → ProcedureDeclaration → List Site
procedure_sites spot procedure =
    list_sites (λ name. name.place) MOST_PARAMETERS 0 procedure.parameters
    ++ (scope_sites [] (procedure_scope procedure)
    ++ (flat_map (λ one. size_sites one.size) (variables_in procedure.body)
    ++ commands_sites
    (within (procedure_scope procedure) (length procedure.parameters + words_in (variables_in procedure.body)) spot)
    (commands_in procedure.body)))

-- the words that the variables of a process take, one after another
abbrev pub words_sites : ℕ → ℕ → List Declaration → List Site
words_sites most before [] = []
words_sites most before (one ∷ others) =
    Takes most before (words_of one.size) one.name.place ∷ words_sites most (before + words_of one.size) others

-- a process
abbrev pub process_sites : Edition → Spot → ProcessDeclaration → List Site
process_sites edition spot process =
    scope_sites [] (process_scope process)
    ++ (flat_map (λ one. size_sites one.size) process.variables
    ++ (words_sites (most_words edition) 0 process.variables
    ++ (flat_map (procedure_sites (within (process_scope process) 0 spot)) process.procedures
    ++ commands_sites (within (process_scope process) 0 spot) process.commands)))

-- a channel
abbrev pub channel_sites : Spot → ChannelDeclaration → List Site
channel_sites spot channel =
    Uses AProcess channel.sender spot.scopes ∷ Uses AProcess channel.receiver spot.scopes ∷ Channels channel.size ∷ []

-- the members of a conversation
abbrev pub member_sites : Spot → List Identifier → List Site
member_sites spot [] = []
member_sites spot (name ∷ names) = Uses AProcess name spot.scopes ∷ member_sites spot names

-- a conversation
abbrev pub conversation_sites : Spot → ConversationDeclaration → List Site
conversation_sites spot conversation = member_sites spot conversation.members

-- all sites of a tree
abbrev pub tree_sites : Tree → List Site
tree_sites tree =
    scope_sites [] (program_scope tree)
    ++ (list_sites (λ one. one.name.place) MOST_CONNECTIONS 0 tree.channels
    ++ (list_sites (λ one. one.name.place) MOST_CONNECTIONS 0 tree.conversations
    ++ (list_sites (λ one. one.name.place) (most_processes tree.edition) 0 tree.processes
    ++ (flat_map (channel_sites (in_program tree)) tree.channels
    ++ (flat_map (conversation_sites (in_program tree)) tree.conversations
    ++ flat_map (process_sites tree.edition (in_program tree)) tree.processes)))))
