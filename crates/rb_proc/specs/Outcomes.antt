-- What instructions work on, and what stays where one does not go on.
use Rattle.std.specs.Prelude.{◌≡◌, ℕ, List, map, Option}
use Rattle.rb_world.specs.Slots.{Slots}
use Rattle.rb_code.specs.WordMachine.Workspace.{Counting, Workspace}
use Rattle.rb_recoverable.specs.Contents.{Contents}
use Rattle.rb_operands.specs.Pieces.{piece_text}
use Rattle.rb_operands.specs.declared.bench.Bench.{Bench}
use Rattle.rb_operands.specs.declared.next.Next.{Next}
use Rattle.rb_operands.specs.declared.next.Next.TheVariants as next

-- what instructions work on
abbrev pub mem : Contents → List (List ℕ) → List (Option Counting) → Slots → Workspace
mem r pieces counters slots = record {
  words = r.words;
  calls = r.calls;
  held = r.held;
  touched = r.touched;
  slots = slots;
  pieces = pieces;
  counters = counters;
}

abbrev pub pieces_in : List (List ℕ) → Bench → List (List ℕ)
pieces_in texts bench = map (piece_text texts) bench.line.pieces

abbrev pub whole : List (List ℕ) → Bench → Contents → Slots → Workspace
whole texts bench r slots = mem r (pieces_in texts bench) bench.counters slots

-- levels and released lines stay, and all stays unless it goes on
abbrev pub Keeps : Next → Contents → Contents → Slots → Slots → Type 0
Keeps (next.Go b) old new before after = (new.levels ≡ old.levels) × (new.waiting ≡ old.waiting)
Keeps answer old new before after = (new ≡ old) × (after ≡ before)
