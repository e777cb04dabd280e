-- The laws of sound code: what stands in its table is executed safely, comes to an end, and stands again.
use Rattle.std.specs.Prelude.{◌≡◌, ℕ, ◌+◌, ℤ, false, List, [], slice_get, Option, Some, None}
use Rattle.rb_syntax.specs.Tree.{Tree}
use Rattle.rb_meaning.specs.Groups.{groups_of}
use Rattle.rb_meaning.specs.Nesting.{IsNested}
use Rattle.rb_scope.specs.InFrames.{Resolved}
use Rattle.rb_scope.specs.Limits.{IsWithinLimits}
use Rattle.rb_scope.specs.declared.slot.Slot.{Slot}
use Rattle.rb_world.specs.Kind.{Membership}
use Rattle.rb_world.specs.Slots.{Slots}
use Rattle.rb_world.specs.World.{Level, Process, Running, copy_of, last_of}
use Rattle.rb_code.specs.Instructions.Plain.{Code}
use Rattle.rb_code.specs.WordMachine.Act.{Unfinished, execute}
use Rattle.rb_code.specs.WordMachine.Turn.{Common, Copy, Standing, memory_of, most_steps, settle, sight, step, want}
use Rattle.rb_code.specs.SoundCode.Sound.{HasTable, Table}
use Rattle.rb_code.specs.SoundCode.WellFormed.{ListsChannels}
use Rattle.rb_code.specs.WordMachine.WordRun.{word_run}
use Rattle.rb_code.specs.SoundCode.StandsInRuns.{ProcessStands}
use Rattle.rb_code.specs.SoundCode.Safe.{IsUnchanged, Safe}
use Rattle.rb_code.specs.Agreement.RoomInTree.{FewOperands}
use Rattle.rb_code.specs.Agreement.StandsFor.{StandsFor}
use Rattle.rb_code.specs.SoundCode.Stands.{ServedBut, Serves, SettlesSoundly, StandsSoundly, StandsSoundlyAfter}

-- A step of a process that stands is safe: each instruction finds what it needs, and where the turn may be given up it has changed nothing.
abbrev pub SoundStepsAreSafe : Type 0
SoundStepsAreSafe =
    (c : Code) (groups : List Membership) (s : Standing) (levels : List (Level Copy)) (alternate : ℕ) (message : Option ℤ) (slots : Slots)
    → StandsSoundly c groups s levels → Serves (want c s) alternate message levels
    → Safe c (sight s alternate (copy_of (last_of levels)) message) (IsUnchanged (memory_of s slots)) (most_steps c) (s.at + 1) [] (memory_of s slots)

-- It comes to an end.
abbrev pub SoundStepsEnd : Type 0
SoundStepsEnd = (c : Code) (groups : List Membership) (s : Standing) (levels : List (Level Copy)) (alternate : ℕ) (message : Option ℤ) (slots : Slots)
    → StandsSoundly c groups s levels → Serves (want c s) alternate message levels
    → execute c (sight s alternate (copy_of (last_of levels)) message) (most_steps c) (s.at + 1) [] (memory_of s slots) ≡ Unfinished → ⊥

-- And then the process stands again.
abbrev pub SoundStepsStand : Type 0
SoundStepsStand =
    (c : Code) (groups : List Membership) (s : Standing) (levels : List (Level Copy)) (alternate : ℕ) (message : Option ℤ) (memory : Common)
    → StandsSoundly c groups s levels → Serves (want c s) alternate message levels
    → StandsSoundlyAfter c groups s levels (step c alternate (copy_of (last_of levels)) s message memory)

-- Settling is safe and never traps or accepts; it comes to an end, and then the process stands.
abbrev pub SoundSettlingIsSafe : Type 0
SoundSettlingIsSafe = (c : Code) (groups : List Membership) (s : Standing) (levels : List (Level Copy)) → SettlesSoundly c groups s levels
    → Safe c (sight s 0 (copy_of (last_of levels)) None) (λ m. ⊥) (most_steps c) s.at [] (memory_of s [])

abbrev pub SoundSettlingStands : Type 0
SoundSettlingStands = (c : Code) (groups : List Membership) (s : Standing) (levels : List (Level Copy)) → SettlesSoundly c groups s levels
    → StandsSoundly c groups (settle c (copy_of (last_of levels)) s) levels

-- What stands has settled.
abbrev pub StandingHasSettled : Type 0
StandingHasSettled = (c : Code) (groups : List Membership) (s : Standing) (levels : List (Level Copy)) → StandsSoundly c groups s levels
    → settle c (copy_of (last_of levels)) s ≡ s

-- In every run of code that has a table each process stands: between two turns, at a test line, and from the copy of each of its levels.
abbrev pub SoundRunsStand : Type 0
SoundRunsStand = (c : Code) (groups : List Membership) (t : Table) → HasTable c groups t → ListsChannels c → (turns : List ℕ) (p : ℕ)
    (q : Process Standing Copy) → slice_get (word_run c groups turns).0.processes p ≡ Some q → ProcessStands c t q

-- So what a process of a run executes comes to an end, whatever alternate it is given: its step, where it runs away from a test line and
-- is served, and its settling.
abbrev pub SoundRunsEnd : Type 0
SoundRunsEnd = (c : Code) (groups : List Membership) (t : Table) → HasTable c groups t → ListsChannels c → (turns : List ℕ) (p : ℕ)
    (q : Process Standing Copy) → slice_get (word_run c groups turns).0.processes p ≡ Some q → q.status ≡ Running → q.at_line ≡ false
    → (alternate : ℕ) (message : Option ℤ) (slots : Slots) → ServedBut (want c q.state) message
    → execute c (sight q.state alternate (copy_of (last_of q.levels)) message) (most_steps c) (q.state.at + 1) [] (memory_of q.state slots)
    ≡ Unfinished
    → ⊥

-- The code of a tree that is resolved, within the limits and nested, and whose expressions need no more operands than there are, is sound.
abbrev pub CodeOfTreesIsSound : Type 0
CodeOfTreesIsSound = (tree : Tree) (slots : List Slot) (c : Code) → Resolved tree slots → IsWithinLimits tree → IsNested tree → FewOperands tree
    → StandsFor tree slots c → (t : Table) × HasTable c (groups_of tree) t
