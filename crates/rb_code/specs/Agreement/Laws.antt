-- The laws of code: what stands for a tree agrees with the tree's meaning, turn by turn, and what is sound is executed safely.
use Rattle.std.specs.Prelude.{◌≡◌, ◌<◌, ◌≤◌, ℕ, List, length, map, slice_get, Some}
use Rattle.rb_syntax.specs.Tree.{Tree}
use Rattle.rb_world.specs.Kind.{Ends, Facts}
use Rattle.rb_world.specs.World.{Level, Process}
use Rattle.rb_world.specs.Channels.{room_from}
use Rattle.rb_world.specs.Slots.{slot_of}
use Rattle.rb_meaning.specs.Environment.{global_words}
use Rattle.rb_meaning.specs.State.{State}
use Rattle.rb_meaning.specs.Groups.{groups_of}
use Rattle.rb_meaning.specs.Meaning.{message_number, run_of, run_text, sent_on, taken_on, tree_kind}
use Rattle.rb_meaning.specs.Nesting.{IsNested}
use Rattle.rb_scope.specs.InFrames.{Resolved}
use Rattle.rb_scope.specs.Limits.{IsWithinLimits}
use Rattle.rb_scope.specs.declared.slot.Slot.{Slot}
use Rattle.rb_code.specs.Instructions.Plain.{Code}
use Rattle.rb_code.specs.SoundCode.Sound.{HasTable, Table}
use Rattle.rb_code.specs.Agreement.RoomInTree.{FewOperands}
use Rattle.rb_code.specs.Agreement.StandsFor.{StandsFor}
use Rattle.rb_code.specs.WordMachine.Turn.{Copy, Link, Standing, kept_from}
use Rattle.rb_code.specs.WordMachine.WordKind.{sent_by, taken_by}
use Rattle.rb_code.specs.WordMachine.WordRun.{variable_words, word_run, word_text}

-- an open level, but for its copy
pub record Tried : Type 0 where
  pub facts : Facts
  pub alternate : ℕ
  pub used : ℕ

abbrev pub tried : {C : Type 0} → Level C → Tried
tried level = record { facts = level.facts; alternate = level.alternate; used = level.used }

-- a process of the word machine agrees with the same process of the tree's meaning
pub record ProcessAgrees (c : Code) (links : List Link) (q : Process State State) (r : Process Standing Copy) : Type 0 where
  pub status : r.status ≡ q.status
  pub at_line : r.at_line ≡ q.at_line
  pub levels : map tried r.levels ≡ map tried q.levels
  pub held : r.state.held ≡ q.state.held
  pub variables : variable_words c r.state ≡ global_words q.state.environment
  pub sent : (channel : ℕ) → sent_by c r.state.process r.state.words channel (slice_get c.channels channel) ≡ length (sent_on q.state channel)
  pub taken : (channel : ℕ) → taken_by c r.state.process r.state.words channel (slice_get c.channels channel) ≡ taken_on q.state channel
  pub kept : kept_from links r.state.last_kept ≡ q.state.kept

-- Over these turns the word machine tells what the meaning tells, and at their end they agree: in their conversations, in each process,
-- and each message that may still be asked for lies in its slot.
pub record Agrees (tree : Tree) (c : Code) (turns : List ℕ) : Type 0 where
  pub told : (word_run c (groups_of tree) turns).1 ≡ (run_of tree turns).1
  pub text : word_text c (groups_of tree) turns ≡ run_text tree turns
  pub talks : (word_run c (groups_of tree) turns).0.talks ≡ (run_of tree turns).0.talks
  pub as_many : length (word_run c (groups_of tree) turns).0.processes ≡ length (run_of tree turns).0.processes
  pub processes : (p : ℕ) (q : Process State State) (r : Process Standing Copy)
      → slice_get (run_of tree turns).0.processes p ≡ Some q → slice_get (word_run c (groups_of tree) turns).0.processes p ≡ Some r
      → ProcessAgrees c (word_run c (groups_of tree) turns).0.memory.links q r
  pub slots : (channel n : ℕ) (ends : Ends) (sender receiver : Process State State) → slice_get c.channels channel ≡ Some ends
      → slice_get (run_of tree turns).0.processes ends.sender ≡ Some sender
      → slice_get (run_of tree turns).0.processes ends.receiver ≡ Some receiver
      → room_from (tree_kind tree) receiver.state receiver.levels channel ≤ n → n < length (sent_on sender.state channel)
      → slot_of c.channels (word_run c (groups_of tree) turns).0.memory.slots channel n ≡ message_number sender.state channel n

-- Sound code agrees with the meaning: of every tree that is nested and within the limits, with the slots of its names, every code that
-- stands for it and has a table, over every list of turns.
abbrev pub SoundCodeAgreesWithMeaning : Type 0
SoundCodeAgreesWithMeaning = (tree : Tree) (slots : List Slot) (c : Code) (t : Table) → Resolved tree slots → IsWithinLimits tree
    → IsNested tree → StandsFor tree slots c → HasTable c (groups_of tree) t → (turns : List ℕ) → Agrees tree c turns

-- So code agrees with the meaning: of every such tree whose expressions find room for their operands, every code that stands for it.
abbrev pub CodeAgreesWithMeaning : Type 0
CodeAgreesWithMeaning = (tree : Tree) (slots : List Slot) (c : Code) → Resolved tree slots → IsWithinLimits tree → IsNested tree
    → FewOperands tree → StandsFor tree slots c → (turns : List ℕ) → Agrees tree c turns
