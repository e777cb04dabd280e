-- The entry that is kept by the numbers of its lists.
use Rattle.std.specs.Prelude.{◌≡◌, ℕ, ◌<◌, List, [], ◌++◌, length, get_or, Option}
use Rattle.rb_code.specs.SoundCode.Sound.{Entry, OpenBlock}
use Rattle.rb_entries.specs.Parts.{loops_of, mode_of, within_of}
use Rattle.rb_entries.specs.declared.entry.Held.{Held}
use Rattle.rb_flow.specs.declared.lists.Lists.{Lists}

abbrev pub operands_of : Lists → ℕ → List (Option ℕ)
operands_of lists at = get_or lists.operands at []

abbrev pub blocks_of : Lists → ℕ → List OpenBlock
blocks_of lists at = get_or lists.blocks at []

abbrev pub entry_of : Lists → Held → Entry
entry_of lists held = record {
  within = within_of held.within;
  operands = operands_of lists held.operands;
  words = held.words;
  blocks = blocks_of lists held.blocks;
  loops = loops_of held.loops;
  pieces = held.pieces;
  mode = mode_of held.mode;
}

-- its lists are there
pub record IsHeld (lists : Lists) (held : Held) : Type 0 where
  pub operands : held.operands < length lists.operands
  pub blocks : held.blocks < length lists.blocks

-- more lists were made
abbrev pub IsFront : {X : Type 0} → List X → List X → Type 0
IsFront {X} xs ys = (more : List X) × (ys ≡ xs ++ more)

pub record HasGrown (before after : Lists) : Type 0 where
  pub operands : IsFront before.operands after.operands
  pub blocks : IsFront before.blocks after.blocks
