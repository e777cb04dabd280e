-- What contracts see of a line under way: its pieces, and the bytes of the line that was joined last.
use Rattle.std.specs.Prelude.{ℕ, List}
use Rattle.rb_operands.specs.declared.line.Piece.{Piece}

pub record LineSeen : Type 0 where
  pub pieces : List Piece
  pub bytes : List ℕ
