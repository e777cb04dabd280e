-- What the machine asks of its processes to tell rooms and messages, the copies that it looks into, and the message that it gives.
use Rattle.std.specs.Prelude.{◌≡◌, ◌<◌, ◌≤◌, ℕ, ℤ, List, [], ◌∷◌, length, slice_get, Option, Some, None}
use Rattle.std.specs.Option.{option_map}
use Rattle.rb_world.specs.Slots.{Slots, slot_of}
use Rattle.rb_world.specs.Standing.{Each}
use Rattle.rb_world.specs.World.{Level, Process}
use Rattle.rb_code.specs.Instructions.Plain.{Code}
use Rattle.rb_code.specs.WordMachine.Workspace.{part_of, variables_place}
use Rattle.rb_code.specs.SoundCode.Stands.{IsAmong}
use Rattle.rb_code.specs.WordMachine.Turn.{Copy, Standing}
use Rattle.rb_code.specs.SoundCode.WellFormed.{ListsChannels}
use Rattle.rb_code.specs.WordMachine.WordKind.{cursor_in}
use Rattle.rb_proc.specs.Process.{Seen}
use Rattle.rb_recovery.specs.Rising.{NoneFalls}

-- a copy has the held length and all cursors of its process
abbrev pub HoldsCursors : Code → ℕ → Level Copy → Type 0
HoldsCursors c p level = variables_place (part_of c p) ≤ length level.copy.words

-- There are as many processes as the code has, each knows its number, and cursors stand in all its copies.
pub record AreNumbered (c : Code) (procs : List Seen) : Type 0 where
  pub as_many : length procs ≡ length c.processes
  pub numbers : Each (λ p (one : Seen). one.process.state.process ≡ p) procs
  pub lists : ListsChannels c
  pub copies : Each (λ p (one : Seen). Each (λ _ level. HoldsCursors c p level) one.process.levels) procs

-- no cursor of a process is less than it was in one of its copies
abbrev pub NoneFell : Code → List Seen → Type 0
NoneFell c procs = Each (λ p (one : Seen). Each (λ _ level. NoneFalls c p level.copy.words one.process.state.words) one.process.levels) procs

-- A process of the code in which the cursor of a channel stands, as in all its copies.
pub record HasCursor (c : Code) (channel : ℕ) (one : Seen) : Type 0 where
  pub exists : one.process.state.process < length c.processes
  pub among : IsAmong channel (part_of c one.process.state.process).channels
  pub copies : Each (λ _ level. HoldsCursors c one.process.state.process level) one.process.levels

-- the conversation of a level, and none where there is no level
abbrev pub conversation_in : {C : Type 0} → Option (Level C) → Option ℕ
conversation_in None = None
conversation_in (Some level) = level.facts.conversation

-- the copy of the outermost level
abbrev pub outermost_copy : {C : Type 0} → List (Level C) → Option C
outermost_copy [] = None
outermost_copy (level ∷ levels) = Some level.copy

-- a copy is that of the level of this number, and without a number there is none
abbrev pub IsCopyAt : {C : Type 0} → List (Level C) → Option ℕ → Option C → Type 0
IsCopyAt levels None copy = copy ≡ None
IsCopyAt {C} levels (Some k) copy = (level : Level C) × (slice_get levels k ≡ Some level) × (copy ≡ Some level.copy)

-- the words of a copy, or the present ones
abbrev pub words_then : List ℤ → Option Copy → List ℤ
words_then words None = words
words_then words (Some copy) = copy.words

-- the cursor of a channel in a copy of a process, or the present one
abbrev pub cursor_at : Code → ℕ → Process Standing Copy → Option Copy → ℕ
cursor_at c channel q copy = cursor_in c q.state.process (words_then q.state.words copy) channel

-- the message of a number, if there is one: it is what lies in its slot
abbrev pub message_given : Code → Slots → ℕ → Option ℕ → Option ℤ
message_given c slots channel number = option_map (slot_of c.channels slots channel) number
