-- Templates of code, as an assembler's text: one instruction, one template after another, labels.
use Rattle.std.specs.Prelude.{◌≡◌, ℕ, ◌+◌, List, ◌∷◌, Some, slice_get}
use Rattle.rb_code.specs.Instructions.Plain.{Block, Code}
use Rattle.rb_code.specs.declared.instr.Instr.{Instr}
use Rattle.rb_code.specs.declared.instr.Instr.TheVariants.{Text}

-- what the instructions of a code are from one address up to another
abbrev pub Template : Type 1
Template = Code → ℕ → ℕ → Type 0

-- one instruction
abbrev pub One : Instr → Template
One instr c a b = (slice_get c.instrs a ≡ Some instr) × (b ≡ a + 1)

-- one template after another
infixr 5 ◌⨾◌
abbrev pub ◌⨾◌ : Template → Template → Template
(P ⨾ Q) c a b = (m : ℕ) × P c a m × Q c m b

-- no instruction
abbrev pub Empty : Template
Empty c a b = b ≡ a

-- a fact, and no instruction
abbrev pub Only : Type 0 → Template
Only X c a b = X × (b ≡ a)

-- the address here is that of a label
abbrev pub At : ℕ → Template
At label c a b = (a ≡ label) × (b ≡ a)

-- a template with a label of its own
abbrev pub Label : (ℕ → Template) → Template
Label P c a b = (label : ℕ) × P label c a b

-- a text, which the list of texts has
abbrev pub Quoted : List ℕ → Template
Quoted text c a b = (k : ℕ) × (slice_get c.texts k ≡ Some text) × One (Text k) c a b

-- a template that knows an entry of the list of recovery blocks, by its number
abbrev pub WithBlock : ℕ → (Block → Template) → Template
WithBlock number P c a b = (block : Block) × (slice_get c.blocks number ≡ Some block) × P block c a b

-- the address here is the first of a list, and a template knows the others
abbrev pub Listed : List ℕ → (List ℕ → Template) → Template
Listed addresses P c a b = (others : List ℕ) × (addresses ≡ a ∷ others) × P others c a b
