-- Entries of recovery blocks.
use Rattle.std.specs.Prelude.{◌≡◌, ℕ, [], ◌∷◌, ◌++◌}
use Rattle.rb_world.specs.Kind.{Facts, Want, Enters}
use Rattle.rb_world.specs.Turn.{new_level}
use Rattle.rb_world.specs.World.{Process, goes_on}
use Rattle.rb_code.specs.Instructions.Plain.{Code}
use Rattle.rb_code.specs.WordMachine.Turn.{Copy, Standing}
use Rattle.rb_code.specs.WordMachine.WordKind.{entered_at}
use Rattle.rb_proc.specs.Process.{kind_of}

-- a process wants to enter this block
abbrev pub WantsBlock : ℕ → Want → Type 0
WantsBlock b (Enters facts) = facts.number ≡ b
WantsBlock b w = ⊥

-- the process at its entry, in its new level
abbrev pub state_entered : ℕ → Standing → Standing
state_entered turn s = record (entered_at s) { last_kept = turn }

abbrev pub entered_process : Code → Facts → ℕ → ℕ → Process Standing Copy → Process Standing Copy
entered_process c facts alternate turn q =
    goes_on (kind_of c) (state_entered turn q.state) (q.levels ++ new_level (kind_of c) facts alternate (state_entered turn q.state) ∷ [])

-- a block is entered, and the process goes on from there
abbrev pub EntersAs : Code → Want → ℕ → ℕ → Process Standing Copy → Process Standing Copy → Type 0
EntersAs c (Enters facts) alternate turn q r = r ≡ entered_process c facts alternate turn q
EntersAs c w alternate turn q r = r ≡ q
