-- What stays within a turn: the calls that were open at the entry of the innermost level, the word that tells the held length, and cursors
-- until they are used.
use Rattle.std.specs.Prelude.{◌≡◌, ℕ, zero, suc, ◌+◌, ◌<◌, ◌≤◌, ℤ, List, [], length, slice_get, Option, Some, None}
use Rattle.rb_world.specs.Kind.{Membership}
use Rattle.rb_world.specs.Slots.{Slots}
use Rattle.rb_world.specs.World.{Level, copy_of, last_of}
use Rattle.rb_code.specs.Instructions.Plain.{Code}
use Rattle.rb_code.specs.WordMachine.Workspace.{Workspace}
use Rattle.rb_code.specs.WordMachine.Act.{Accepts, Going, Outcome, Sight, Stopped, Trapped, Unfinished, here, move}
use Rattle.rb_code.specs.WordMachine.Turn.{Copy, Standing, memory_of, most_steps, sight, want}
use Rattle.rb_code.specs.SoundCode.Stands.{IsAmong, Serves, SettlesSoundly, StandsSoundly}
use Rattle.rb_code.specs.declared.instr.Instr.{Instr}
use Rattle.rb_code.specs.declared.instr.Instr.TheVariants.{Put, Take}

-- at least so many calls are open, and there is a word
pub record HasEnough (calls : ℕ) (m : Workspace) : Type 0 where
  pub calls_stay : calls ≤ length m.calls
  pub words_stay : 0 < length m.words

-- how many calls a copy has; without one, none
abbrev pub entry_calls : Option Copy → ℕ
entry_calls None = 0
entry_calls (Some copy) = length copy.calls

module _ (c : Code) (see : Sight) (calls : ℕ) (start : List ℤ) where
  -- a channel's cursor is used as the turn found it, and is one of the process
  abbrev pub CursorStays : Option Instr → List ℤ → Type 0
  CursorStays (Some (Put channel)) words = IsAmong channel (here c see).channels × (words ≡ start)
  CursorStays (Some (Take channel)) words = IsAmong channel (here c see).channels × (words ≡ start)
  CursorStays _ words = Unit {0}

  abbrev pub StaysAt : ℕ → Workspace → Type 0
  StaysAt a m = HasEnough calls m × CursorStays (slice_get c.instrs a) m.words

  abbrev pub StaysOn : Outcome → (ℕ → List ℤ → Workspace → Type 0) → Type 0
  StaysOn (Going a operands m) next = next a operands m
  StaysOn (Stopped a m) next = Unit {0}
  StaysOn (Accepts a m) next = Unit {0}
  StaysOn (Trapped cause) next = Unit {0}
  StaysOn Unfinished next = Unit {0}

  -- here, and wherever at most n instructions lead from here
  abbrev pub Stays : ℕ → ℕ → List ℤ → Workspace → Type 0
  Stays zero a operands m = StaysAt a m
  Stays (suc n) a operands m = StaysAt a m × StaysOn (move c see a operands m) (Stays n)

-- In a step of a process that stands there are never fewer calls than at the entry of its innermost level, always a word, and cursors are used as they
-- were at its beginning.
abbrev pub SoundStepsStay : Type 0
SoundStepsStay =
    (c : Code) (groups : List Membership) (s : Standing) (levels : List (Level Copy)) (alternate : ℕ) (message : Option ℤ) (slots : Slots)
    → StandsSoundly c groups s levels → Serves (want c s) alternate message levels
    → Stays c (sight s alternate (copy_of (last_of levels)) message) (entry_calls (copy_of (last_of levels))) s.words (most_steps c) (s.at + 1) []
    (memory_of s slots)

-- Nor are there while it settles, and no cursor is used then: it would have to be as it was in any words whatsoever.
abbrev pub SoundSettlingStays : Type 0
SoundSettlingStays = (c : Code) (groups : List Membership) (s : Standing) (levels : List (Level Copy)) (start : List ℤ)
    → SettlesSoundly c groups s levels
    → Stays c (sight s 0 (copy_of (last_of levels)) None) (entry_calls (copy_of (last_of levels))) start (most_steps c) s.at [] (memory_of s [])
