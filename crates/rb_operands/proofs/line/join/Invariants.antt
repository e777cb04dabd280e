use Rattle.std.proofs.Common.{◌≤◌, vec_capacity}
use Rattle.rb_operands.proofs.Joins.{IsJoined}
use Rattle.rb_operands.proofs.line.join.Given as goal

abbrev pub invariant-loop-index : goal.invariant-loop-index
invariant-loop-index l = record { joins : IsJoined l.texts l.pieces l.index l.bytes.items; room : 4112 ≤ vec_capacity l.bytes }
