use Rattle.std.proofs.Common.{◌≡◌, ◌≤◌, ◌++◌, drop, length, vec_capacity, vec_len}
use Rattle.rb_code.specs.Agreement.Places.{placed_from}
use Rattle.rb_picture.proofs.places.at_turns.Given as goal

-- the places so far, and those of the other instructions; before these no more turns begin than there are instructions
abbrev pub invariant-loop-instr : goal.invariant-loop-instr
invariant-loop-instr l = record {
  placed : l.places.items ++ placed_from l.next l.turns (drop l.instr-index l.instrs) ≡ placed_from 0 l.turns l.instrs;
  few : l.next ≤ l.instr-index;
  many : vec_len l.places ≡ l.instr-index;
  room : length l.instrs ≤ vec_capacity l.places;
}
