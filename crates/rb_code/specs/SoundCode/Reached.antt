-- Which addresses of a code are reached: those to which its steps lead from the start of a main body.
use Rattle.std.specs.Prelude.{◌≡◌, ℕ, ◌+◌, ◌<◌, ◌≤◌, List, [], ◌∷◌, slice_get, Some}
use Rattle.rb_code.specs.Instructions.Plain.{Code, Part}
use Rattle.rb_code.specs.SoundCode.Sound.{IsMember, alternates_at}
use Rattle.rb_code.specs.declared.instr.Instr.{Instr}
use Rattle.rb_code.specs.declared.instr.Instr.TheVariants.{Jump, JumpZero, Call, Return, Start, Done, Range, Again, Absent}

-- The addresses to which an instruction at an address may lead. A call leads to its procedure, and goes on behind it; and what stands behind
-- a `fail` counts as its next address.
abbrev pub successors : Code → Instr → ℕ → List ℕ
successors c (Jump b) a = b ∷ []
successors c (JumpZero b) a = b ∷ (a + 1) ∷ []
successors c (Absent channel b) a = b ∷ (a + 1) ∷ []
successors c (Range k b) a = b ∷ (a + 1) ∷ []
successors c (Again k b) a = b ∷ (a + 1) ∷ []
successors c (Call b p n) a = b ∷ (a + 1) ∷ []
successors c (Start b) a = alternates_at (slice_get c.blocks b)
successors c Return a = []
successors c Done a = []
successors c other a = (a + 1) ∷ []

-- The addresses that are reached: a main body begins there, or an instruction that is reached leads there.
pub data Reached (c : Code) : ℕ → Type 0 where
  begins : {a : ℕ} (p : ℕ) (part : Part) → slice_get c.processes p ≡ Some part → part.start ≡ a → Reached c a
  leads : {a b : ℕ} (instr : Instr) → Reached c a → slice_get c.instrs a ≡ Some instr → IsMember b (successors c instr a) → Reached c b

-- An address of the main body of process number p: it stands from the body's start on, and no `done` before it.
pub record IsInMainBody (c : Code) (p a : ℕ) : Type 0 where
  pub part : Part
  pub there : slice_get c.processes p ≡ Some part
  pub behind : part.start ≤ a
  pub before : (x : ℕ) → part.start ≤ x → x < a → slice_get c.instrs x ≡ Some Done → ⊥
