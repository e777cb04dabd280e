-- Code that is executed: what its lists are, for what the machine keeps in words of 32 bits.
use Rattle.std.specs.Prelude.{◌≡◌, ◌+◌, ◌<◌, ◌≤◌, ◌^◌, ℕ, Bool, true, false, length, slice_get, Some}
use Rattle.rb_base.specs.Limits.{most_words}
use Rattle.rb_code.specs.Instructions.Plain.{Block, Code}
use Rattle.rb_code.specs.WordMachine.Workspace.{part_of, variables_place}
use Rattle.rb_code.specs.declared.instr.Instr.{Instr}
use Rattle.rb_code.specs.declared.instr.Instr.TheVariants.{Done, Jump, Turn}
use Rattle.rb_operands.specs.Pieces.{AreTexts}
use Rattle.rb_recoverable.specs.Places.{most_places}

-- no more instructions than addresses, texts that may stand in a line, and for each process no more channels and words than places; and
-- each recovery block has no more alternates than 32 bits count
pub record IsExecutable (c : Code) : Type 0 where
  pub addresses : length c.instrs < 2 ^ 32
  pub texts : AreTexts c.texts
  pub places : (p : ℕ) → p < length c.processes → variables_place (part_of c p) + most_words c.edition ≤ most_places
  pub words : (p : ℕ) → p < length c.processes → (part_of c p).words ≤ most_words c.edition
  pub alternates : (b : ℕ) (block : Block) → slice_get c.blocks b ≡ Some block → length block.alternates < 2 ^ 32

-- a process that stands at an instruction is done
abbrev pub ends : Instr → Bool
ends Done = true
ends _ = false

-- an instruction is there, and another one behind it unless a process that stands there is done
pub record HasNext (c : Code) (at : ℕ) : Type 0 where
  pub instr : Instr
  pub there : slice_get c.instrs at ≡ Some instr
  pub next : ends instr ≡ false → at + 1 < length c.instrs

-- a `turn` stands at an address, which is this one
abbrev pub IsTurnAt : Code → ℕ → ℕ → Type 0
IsTurnAt c at to = (to ≡ at) × (slice_get c.instrs to ≡ Some Turn)

-- a jump stands at an address, and leads to a `turn`
abbrev pub LandsAt : Code → ℕ → ℕ → Type 0
LandsAt c at to = (slice_get c.instrs at ≡ Some (Jump to)) × (slice_get c.instrs to ≡ Some Turn)

-- a `turn` stands at the address behind an entry
abbrev pub RestartsAt : Code → ℕ → Type 0
RestartsAt c at = slice_get c.instrs at ≡ Some Turn
