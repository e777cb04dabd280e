-- What one instruction asks of whoever executes it beside what it is ready for.
use Rattle.std.specs.Prelude.{ℕ, ◌-◌, ◌<◌, ◌^◌, ℤ, List}
use Rattle.rb_base.specs.declared.event.Cause.{Cause}
use Rattle.rb_base.specs.declared.event.Cause.TheVariants.{Fail as FailCause, Test as TestCause}
use Rattle.rb_meaning.specs.Environment.{natural}
use Rattle.rb_code.specs.Instructions.Plain.{Code}
use Rattle.rb_code.specs.WordMachine.Workspace.{cursor_place, word_at}
use Rattle.rb_code.specs.WordMachine.Act.{Accepts, Going, Outcome, Sight, Stopped, Trapped, Unfinished, here}
use Rattle.rb_code.specs.SoundCode.Stays.{HasEnough}
use Rattle.rb_code.specs.declared.instr.Instr.{Instr}
use Rattle.rb_code.specs.declared.instr.Instr.TheVariants.{Put, Take, Test}

-- where it goes on, there are still enough calls and words
abbrev pub LeavesEnough : ℕ → Outcome → Type 0
LeavesEnough calls (Going a operands m) = HasEnough calls m
LeavesEnough calls (Stopped a m) = Unit {0}
LeavesEnough calls (Accepts a m) = Unit {0}
LeavesEnough calls (Trapped cause) = Unit {0}
LeavesEnough calls Unfinished = Unit {0}

-- a cursor that is used can rise
abbrev pub CursorRises : Code → Sight → List ℤ → Instr → Type 0
CursorRises c see words (Put channel) = natural (word_at words (cursor_place (here c see) channel)) < 2 ^ 32 - 1
CursorRises c see words (Take channel) = natural (word_at words (cursor_place (here c see) channel)) < 2 ^ 32 - 1
CursorRises c see words _ = Unit {0}

-- the cause of an instruction that traps by itself
abbrev pub cause_by : Instr → Cause
cause_by (Test b) = TestCause
cause_by _ = FailCause
