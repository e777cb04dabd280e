-- What the rules of limits leave to a tree without a fault: how long its lists are, how large its arrays, channels and turn bounds,
-- and that the names of its processes, channels and conversations are told apart by their texts.
use Rattle.std.specs.Prelude.{ℕ, ◌≤◌, ◌++◌, List, length, map}
use Rattle.std.specs.List.{All, IsDistinct}
use Rattle.rb_base.specs.declared.edition.Edition.{Edition}
use Rattle.rb_base.specs.declared.limits.TheConstants.{MOST_CHANNEL_SIZE, MOST_CONNECTIONS, MOST_ITEMS, MOST_PARAMETERS, MOST_TURNS}
use Rattle.rb_base.specs.Limits.{most_processes, most_words}
use Rattle.rb_syntax.specs.declared.expression.Number.{Number}
use Rattle.rb_syntax.specs.Tree.{Command, Assignment, Printing, Sending, Receiving, Conditional, Loop, Invocation, Failure, Recovering, Commands, NoCommand, Then, Body, Scope, Otherwise, NoElse, Else, RecoveryBlock, Recovers, Alternates, NoAlternate, Alternate, ProcedureDeclaration, ProcessDeclaration, Tree}
use Rattle.rb_meaning.specs.Environment.{frame_of, frame_words, natural, same_name}
use Rattle.rb_meaning.specs.Step.{commands_of}

-- a number from 1 to a greatest
pub record IsFrom1To (most : ℕ) (number : Number) : Type 0 where
  pub some : 1 ≤ natural number.value
  pub few : natural number.value ≤ most

abbrev mutual
  -- a statement: the items of a `print` are few, and turn bounds lie within their limits
  pub CommandWithin : Command → Type 0
  CommandWithin (Assignment to value) = Unit {0}
  CommandWithin (Printing items) = length items ≤ MOST_ITEMS
  CommandWithin (Sending channel value) = Unit {0}
  CommandWithin (Receiving channel to otherwise) = OtherwiseWithin otherwise
  CommandWithin (Conditional test body otherwise) = BodyWithin body × OtherwiseWithin otherwise
  CommandWithin (Loop test body) = BodyWithin body
  CommandWithin (Invocation procedure arguments) = Unit {0}
  CommandWithin Failure = Unit {0}
  CommandWithin (Recovering block) = RecoveryWithin block

  pub CommandsWithin : Commands → Type 0
  CommandsWithin NoCommand = Unit {0}
  CommandsWithin (Then first rest) = CommandWithin first × CommandsWithin rest

  pub BodyWithin : Body → Type 0
  BodyWithin (Scope variables commands) = CommandsWithin commands

  pub OtherwiseWithin : Otherwise → Type 0
  OtherwiseWithin NoElse = Unit {0}
  OtherwiseWithin (Else body) = BodyWithin body

  pub RecoveryWithin : RecoveryBlock → Type 0
  RecoveryWithin (Recovers number conversation place test bound alternates) = IsFrom1To MOST_TURNS bound × AlternatesWithin alternates

  pub AlternatesWithin : Alternates → Type 0
  AlternatesWithin NoAlternate = Unit {0}
  AlternatesWithin (Alternate body others) = BodyWithin body × AlternatesWithin others

-- a procedure
pub record ProcedureWithin (procedure : ProcedureDeclaration) : Type 0 where
  pub parameters : length procedure.parameters ≤ MOST_PARAMETERS
  pub commands : CommandsWithin (commands_of procedure.body)

-- a process
pub record ProcessWithin (edition : Edition) (process : ProcessDeclaration) : Type 0 where
  pub words : frame_words (frame_of process.variables) ≤ most_words edition
  pub procedures : All ProcedureWithin process.procedures
  pub commands : CommandsWithin process.commands

-- names that differ in their texts
abbrev pub AreDistinct : List (List ℕ) → Type 0
AreDistinct names = IsDistinct same_name names

-- A tree is within the limits.
pub record IsWithinLimits (tree : Tree) : Type 0 where
  pub few_processes : length tree.processes ≤ most_processes tree.edition
  pub few_channels : length tree.channels ≤ MOST_CONNECTIONS
  pub few_conversations : length tree.conversations ≤ MOST_CONNECTIONS
  pub channel_sizes : All (λ channel. IsFrom1To MOST_CHANNEL_SIZE channel.size) tree.channels
  pub processes : All (ProcessWithin tree.edition) tree.processes

-- the names that a tree declares outside its processes
abbrev pub outer_names : Tree → List (List ℕ)
outer_names tree =
    map (λ process. process.name.text) tree.processes ++ map (λ channel. channel.name.text) tree.channels
    ++ map (λ conversation. conversation.name.text) tree.conversations

-- The processes, channels and conversations of a tree have names of their own: no two of one kind are alike, and no two of different kinds.
pub record HasDistinctNames (tree : Tree) : Type 0 where
  pub processes : AreDistinct (map (λ process. process.name.text) tree.processes)
  pub channels : AreDistinct (map (λ channel. channel.name.text) tree.channels)
  pub conversations : AreDistinct (map (λ conversation. conversation.name.text) tree.conversations)
  pub all : AreDistinct (outer_names tree)
