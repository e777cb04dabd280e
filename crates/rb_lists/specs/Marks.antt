-- The entry, the start and the test of a block, as instructions.
use Rattle.std.specs.Prelude.{ℕ, nat_eq, Bool, false, Option, None, Some}
use Rattle.rb_code.specs.declared.instr.Instr.{Instr}
use Rattle.rb_code.specs.declared.instr.Instr.TheVariants.{Enter, Start, Test}
use Rattle.rb_lists.specs.declared.once.Mark.{Mark}
use Rattle.rb_lists.specs.declared.once.Mark.TheVariants.{Entry, Begin, Judge}

-- the block of which an instruction is this
abbrev pub block_marked : Mark → Instr → Option ℕ
block_marked Entry (Enter b) = Some b
block_marked Begin (Start b) = Some b
block_marked Judge (Test b) = Some b
block_marked mark other = None

abbrev pub is_number : ℕ → Option ℕ → Bool
is_number b None = false
is_number b (Some d) = nat_eq d b

-- an instruction is this of block number b
abbrev pub is_marked : Mark → ℕ → Instr → Bool
is_marked mark b instr = is_number b (block_marked mark instr)
