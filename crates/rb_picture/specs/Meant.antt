-- The trace of a program's meaning: of the run of its tree, in which each recovery point is a whole copy of a state. It has the shape of
-- the trace of its code; only what is read of a state differs.
use Rattle.std.specs.Prelude.{ℕ, ◌+◌, cond, List, [], ◌∷◌, ◌++◌, length, map, Option, Some, None}
use Rattle.std.specs.List.{flat_map}
use Rattle.rb_base.specs.declared.place.Place.{Place}
use Rattle.rb_syntax.specs.Tree.{Command, Assignment, Printing, Sending, Receiving, Conditional, Loop, Invocation, Failure, Recovering, Commands, NoCommand, Then, Body, Scope, Otherwise, NoElse, Else, RecoveryBlock, Recovers, Alternates, NoAlternate, Alternate, ConversationDeclaration, ProcedureDeclaration, ProcessDeclaration, Tree}
use Rattle.rb_world.specs.Kind.{Ends, Facts}
use Rattle.rb_world.specs.World.{Level, Process, ProcessStatus, Running, Finished, FailedWith, last_of}
use Rattle.rb_world.specs.Turn.{opening_talks}
use Rattle.rb_meaning.specs.Environment.{frame_of, frame_words, global_words}
use Rattle.rb_meaning.specs.State.{Item, Perform, StartOf, TestOf, EndBlock, EndCall, State}
use Rattle.rb_meaning.specs.Step.{Nothing}
use Rattle.rb_meaning.specs.Groups.{channels_of, facts_of, groups_of, number_or_zero}
use Rattle.rb_meaning.specs.Nesting.{alternates_of}
use Rattle.rb_meaning.specs.Meaning.{final_of, naming_of, opening_world, tree_kind}
use Rattle.rb_picture.specs.Head.{facts_head, head_with, meetings}
use Rattle.rb_changes.specs.Noted.{WorldNoted}
use Rattle.rb_code.specs.Agreement.Places.{block_place, command_place}
use Rattle.rb_changes.specs.Shown.{Reading, unused}
use Rattle.rb_picture.specs.Trace.{fresh_process, trace_from}

-- Of what stands first in what is left of a text.
abbrev pub item_place : Item → Option Place
item_place (Perform command) = command_place command
item_place (StartOf block) = Some (block_place block)
item_place (TestOf block) = Some (block_place block)
item_place EndBlock = None
item_place EndCall = None

abbrev pub first_place : List Item → Option Place
first_place [] = None
first_place (item ∷ items) = item_place item

-- of the block of the innermost recovery point, before whose start that point stands
abbrev pub line_place : Option (Level State) → Option Place
line_place None = None
line_place (Some level) = first_place level.copy.items

-- The place that is told of a process: none once it is done or has failed.
abbrev pub place_meant : ProcessStatus → Process State State → Option Place
place_meant Running q = cond q.at_line (line_place (last_of q.levels)) (first_place q.state.items)
place_meant Finished q = None
place_meant (FailedWith cause) q = None

-- the turn of an entry, by its recovery point: the last turn that was kept there, and 0 for none
abbrev pub turn_number : Option (ℕ × ℕ) → ℕ
turn_number None = 0
turn_number (Some one) = one.0

-- How states over trees are read.
abbrev pub tree_reading : Tree → Reading State State Nothing
tree_reading tree = record {
  kind = tree_kind tree;
  words = λ s. global_words s.environment;
  entered = λ m copy. turn_number (last_of copy.kept);
  place = λ q. place_meant q.status q;
}

abbrev mutual
  -- what is known of the recovery blocks of a statement, in the order of the text
  pub blocks_of_command : Tree → Command → List Facts
  blocks_of_command tree (Assignment to value) = []
  blocks_of_command tree (Printing items) = []
  blocks_of_command tree (Sending channel value) = []
  blocks_of_command tree (Receiving channel to otherwise) = blocks_of_otherwise tree otherwise
  blocks_of_command tree (Conditional test body otherwise) = blocks_of_body tree body ++ blocks_of_otherwise tree otherwise
  blocks_of_command tree (Loop test body) = blocks_of_body tree body
  blocks_of_command tree (Invocation procedure arguments) = []
  blocks_of_command tree Failure = []
  blocks_of_command tree (Recovering block) = blocks_of_recovery tree block

  pub blocks_of_commands : Tree → Commands → List Facts
  blocks_of_commands tree NoCommand = []
  blocks_of_commands tree (Then first rest) = blocks_of_command tree first ++ blocks_of_commands tree rest

  pub blocks_of_body : Tree → Body → List Facts
  blocks_of_body tree (Scope variables commands) = blocks_of_commands tree commands

  pub blocks_of_otherwise : Tree → Otherwise → List Facts
  blocks_of_otherwise tree NoElse = []
  blocks_of_otherwise tree (Else body) = blocks_of_body tree body

  -- a recovery block comes before those in its alternates
  pub blocks_of_recovery : Tree → RecoveryBlock → List Facts
  blocks_of_recovery tree (Recovers number conversation place test bound alternates) =
      facts_of tree (Recovers number conversation place test bound alternates) ∷ blocks_of_alternates tree alternates

  pub blocks_of_alternates : Tree → Alternates → List Facts
  blocks_of_alternates tree NoAlternate = []
  blocks_of_alternates tree (Alternate body others) = blocks_of_body tree body ++ blocks_of_alternates tree others

abbrev pub blocks_of_procedures : Tree → List ProcedureDeclaration → List Facts
blocks_of_procedures tree [] = []
blocks_of_procedures tree (procedure ∷ others) = blocks_of_body tree procedure.body ++ blocks_of_procedures tree others

-- of processes, each with its procedures first
abbrev pub blocks_of_processes : Tree → List ProcessDeclaration → List Facts
blocks_of_processes tree [] = []
blocks_of_processes tree (process ∷ others) =
    (blocks_of_procedures tree process.procedures ++ blocks_of_commands tree process.commands) ++ blocks_of_processes tree others

-- how many alternates each conversation has, from number d on
abbrev pub counts_from : Tree → ℕ → List ConversationDeclaration → List ℕ
counts_from tree d [] = []
counts_from tree d (conversation ∷ others) = number_or_zero (alternates_of tree d) ∷ counts_from tree (d + 1) others

abbrev pub counts_of : Tree → List ℕ
counts_of tree = counts_from tree 0 tree.conversations

abbrev pub tree_head : Tree → ℕ → List ℕ
tree_head tree turns =
    head_with tree.edition (naming_of tree) (channels_of tree) (meetings (groups_of tree) (counts_of tree))
    (flat_map (facts_head (naming_of tree)) (blocks_of_processes tree tree.processes)) turns

-- before the opening
abbrev pub before_run : Tree → WorldNoted
before_run tree = record {
  processes = map (λ (process : ProcessDeclaration). fresh_process (frame_words (frame_of process.variables))) tree.processes;
  channels = map (λ (ends : Ends). (unused ends.size).numbers) (channels_of tree);
  talks = opening_talks (groups_of tree);
}

-- The trace of the run of a program's meaning over these turns.
abbrev pub tree_trace_text : Tree → List ℕ → List ℕ
tree_trace_text tree turns =
    trace_from (tree_reading tree) (naming_of tree) (tree_head tree (length turns)) (before_run tree) (final_of tree) (opening_world tree) turns
