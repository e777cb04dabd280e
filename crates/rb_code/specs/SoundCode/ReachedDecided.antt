-- Which addresses of a code are reached can be told.
use Rattle.std.specs.Prelude.{◌⊎◌, ℕ, ◌<◌, length}
use Rattle.rb_code.specs.Instructions.Plain.{Code}
use Rattle.rb_code.specs.SoundCode.Reached.{Reached}

-- each address of an instruction is reached, or it is not
abbrev pub ReachedIsDecided : Type 0
ReachedIsDecided = (c : Code) (a : ℕ) → a < length c.instrs → Reached c a ⊎ (Reached c a → ⊥)
