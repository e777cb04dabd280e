-- What a call adds to the code, told so that later calls change nothing of it: it is code of a template in every whole code that has,
-- at the addresses and numbers in question, what this call added.
use Rattle.std.specs.Prelude.{◌≡◌, ℕ, ◌<◌, ◌≤◌, List, length, slice_get, option_map}
use Rattle.rb_code.specs.Instructions.Plain.{Block, Code}
use Rattle.rb_code.specs.Agreement.Template.{Template, One}
use Rattle.rb_code.specs.Agreement.StandsFor.{numbers_from, text_numbers}
use Rattle.rb_code.specs.declared.instr.Instr.{Instr}
use Rattle.rb_draft.specs.Output.{Output, linked}

-- one instruction of process number p, in the whole code
abbrev pub Placed : ℕ → Instr → Template
Placed p instr whole a b = One (linked p whole instr) whole a b

-- what stood in a list still stands there
pub record Grows {A : Type 0} (old new : List A) : Type 0 where
  pub longer : length old ≤ length new
  pub kept : (i : ℕ) → i < length old → slice_get new i ≡ slice_get old i

-- two lists of entries are as long, and differ only between these numbers
pub record Keeps (from to : ℕ) (old new : List Block) : Type 0 where
  pub long : length new ≡ length old
  pub kept : (i : ℕ) → (from ≤ i → i < to → ⊥) → slice_get new i ≡ slice_get old i

-- what came is added, or is an entry between these numbers; and texts are numbered in the order in which instructions name them
pub record Follows (from to : ℕ) (old new : Output) : Type 0 where
  pub rises : from ≤ to
  pub instrs : Grows old.instrs new.instrs
  pub texts : Grows old.texts new.texts
  pub blocks : Keeps from to old.blocks new.blocks
  pub numbered : text_numbers old.instrs ≡ numbers_from 0 old.texts → text_numbers new.instrs ≡ numbers_from 0 new.texts

-- the whole list has all that another has from a place on, and has it in a form of its own
pub record Covers {A : Type 0} (form : A → A) (from : ℕ) (part whole : List A) : Type 0 where
  pub has : (i : ℕ) → from ≤ i → i < length part → slice_get whole i ≡ option_map form (slice_get part i)

-- the whole list has all entries between these numbers
pub record Settles (from to : ℕ) (part whole : List Block) : Type 0 where
  pub room : to ≤ length part
  pub has : (i : ℕ) → from ≤ i → i < to → slice_get whole i ≡ slice_get part i

-- the whole code has what came between two states of the draft
pub record Includes (link : Code → Instr → Instr) (from to : ℕ) (old new : Output) (whole : Code) : Type 0 where
  pub instrs : Covers (link whole) (length old.instrs) new.instrs whole.instrs
  pub texts : Covers (λ text. text) (length old.texts) new.texts whole.texts
  pub blocks : Settles from to new.blocks whole.blocks

-- What came between two states of the draft is code of this template, with recovery blocks of these numbers.
pub record Emits (link : Code → Instr → Instr) (from to : ℕ) (P : Template) (old new : Output) : Type 0 where
  pub follows : Follows from to old new
  pub stands : (whole : Code) → Includes link from to old new whole → P whole (length old.instrs) (length new.instrs)

-- the same for code of any process that has no recovery block
abbrev pub Adds : Template → Output → Output → Type 0
Adds P old new = (p n : ℕ) → Emits (linked p) n n P old new
