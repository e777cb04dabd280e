-- The pieces of a line.
use Rattle.std.specs.Prelude.{ℕ, ◌≤◌, List, [], length, slice_get}
use Rattle.std.specs.Fmt.{signed_decimal}
use Rattle.std.specs.List.{AllByRecursion}
use Rattle.std.specs.Option.{unwrap_or}
use Rattle.rb_base.specs.declared.limits.TheConstants.{LONGEST_TEXT}
use Rattle.rb_hold.specs.Held.{IsLine}
use Rattle.rb_operands.specs.declared.line.Piece.{Piece}
use Rattle.rb_operands.specs.declared.line.Piece.TheVariants.{Text, Number}

-- the bytes of a piece
abbrev pub piece_text : List (List ℕ) → Piece → List ℕ
piece_text texts (Text k) = unwrap_or (slice_get texts k) []
piece_text texts (Number n) = signed_decimal n

-- a text that may stand in a line
pub record IsText (text : List ℕ) : Type 0 where
  pub short : length text ≤ LONGEST_TEXT
  pub line : IsLine text

abbrev pub AreTexts : List (List ℕ) → Type 0
AreTexts texts = AllByRecursion IsText texts
