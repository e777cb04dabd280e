-- The work of a process in its turn. Work is counted in ticks, one for each word that is read or written.
use Rattle.std.specs.Prelude.{ℕ, zero, suc, ◌+◌, ℤ, List, [], slice_get, Option, Some, None}
use Rattle.rb_world.specs.Slots.{Slots}
use Rattle.rb_world.specs.World.{Level, Process, copy_of, last_of}
use Rattle.rb_code.specs.WordMachine.Act.{Outcome, Going, Stopped, Accepts, Trapped, Unfinished, Sight, move}
use Rattle.rb_code.specs.WordMachine.Workspace.{Workspace}
use Rattle.rb_code.specs.Instructions.Plain.{Code}
use Rattle.rb_code.specs.WordMachine.Turn.{Copy, Standing, memory_of, most_steps, sight, want}
use Rattle.rb_code.specs.declared.instr.Instr.{Instr}
use Rattle.rb_code.specs.declared.instr.Instr.TheVariants.{Load, Prior, LoadAt, PriorAt, Store, StoreAt, Frame, Print, Room, Put, There, Take, Call, Absent}
use Rattle.rb_proc.specs.Process.{alternate_for}

-- how many words an instruction names
abbrev pub named : Instr → ℕ
named (Load spot) = 1
named (Prior spot) = 1
named (LoadAt spot) = 1
named (PriorAt spot) = 1
named (Store spot) = 1
named (StoreAt spot) = 1
named Print = 1
named (Frame n) = n
named (Call a p n) = p + n
named (Room channel) = 2
named (There channel) = 2
named (Absent channel a) = 2
named (Put channel) = 2
named (Take channel) = 2
named _ = 0

-- the same of the instruction at an address, if there is one
abbrev pub named_at : Option Instr → ℕ
named_at None = 0
named_at (Some one) = named one

-- what is named from where an instruction leads
abbrev pub named_from : Outcome → (ℕ → List ℤ → Workspace → ℕ) → ℕ
named_from (Going a operands m) next = next a operands m
named_from (Stopped a m) next = 0
named_from (Accepts a m) next = 0
named_from (Trapped cause) next = 0
named_from Unfinished next = 0

-- how many words the instructions name that are carried out from an address on, of which there are at most n
abbrev pub named_along : Code → Sight → ℕ → ℕ → List ℤ → Workspace → ℕ
named_along c see zero a operands m = 0
named_along c see (suc n) a operands m = named_at (slice_get c.instrs a) + named_from (move c see a operands m) (named_along c see n)

-- the words that a step names
abbrev pub named_by_step : Code → ℕ → Option Copy → Standing → Option ℤ → Slots → ℕ
named_by_step c alternate copy s message slots =
    named_along c (sight s alternate copy message) (most_steps c) (s.at + 1) [] (memory_of s slots)

-- the words that the step of a process names, with this message or none
abbrev pub named_in_step : Code → Process Standing Copy → Slots → Option ℤ → ℕ
named_in_step c q slots message =
    named_by_step c (alternate_for (want c q.state) q.levels) (copy_of (last_of q.levels)) q.state message slots

-- the words that are named on the way to the next turn, with these levels open
abbrev pub named_settling : Code → Standing → List (Level Copy) → ℕ
named_settling c s levels = named_along c (sight s 0 (copy_of (last_of levels)) None) (most_steps c) s.at [] (memory_of s [])
