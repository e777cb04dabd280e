-- What is known at all addresses, as it is kept: what addresses have in common stands once, in a list of contexts.
use Rattle.std.specs.Prelude.{ℕ, zero, suc, ◌≤◌, List, length, map, slice_get, Option, None, option_map}
use Rattle.std.specs.List.{All}
use Rattle.rb_entries.specs.declared.cell.Cell.{Cell}
use Rattle.rb_search.specs.declared.cells.Context.{Context}
use Rattle.rb_search.specs.declared.cells.Slot.{Slot}
use Rattle.rb_entries.specs.declared.entry.Held.{Held}

-- the context of a number, of which 0 is that of none
abbrev pub context_in : List Context → ℕ → Option Context
context_in contexts zero = None
context_in contexts (suc n) = slice_get contexts n

abbrev pub entry_with : Slot → Context → Held
entry_with slot context = record {
  within = context.within;
  operands = slot.operands;
  words = context.words;
  blocks = context.blocks;
  loops = context.loops;
  pieces = slot.pieces;
  mode = slot.mode;
}

abbrev pub cell_of : List Context → Slot → Cell
cell_of contexts slot = record { entry = option_map (entry_with slot) (context_in contexts slot.context); pending = slot.pending }

abbrev pub cells_of : List Context → List Slot → List Cell
cells_of contexts slots = map (cell_of contexts) slots

-- the contexts of all are there
abbrev pub AreKept : List Context → List Slot → Type 0
AreKept contexts slots = All (λ (slot : Slot). slot.context ≤ length contexts) slots
