-- Pieces that a text is put together from.
use Rattle.std.specs.Prelude.{ℕ, List, decimal}
use Rattle.rb_make.specs.declared.piece.Piece.{Piece}
use Rattle.rb_make.specs.declared.piece.Piece.TheVariants.{Bytes, Number}

-- the bytes of a piece
abbrev pub piece_bytes : Piece → List ℕ
piece_bytes (Bytes bytes) = bytes.now
piece_bytes (Number n) = decimal n
