-- The pieces of which an image is made: numbers, texts, lists and optional numbers. Images are this project's own.
use Rattle.std.specs.Prelude.{ℕ, ℤ, pos, List, ◌++◌, length, Option, Some, None}
use Rattle.std.specs.List.{flat_map}
use Rattle.std.specs.Int.{w64, to_be_bytes, cast_unsigned}
use Rattle.rb_code.specs.declared.instr.Spot.{Spot}
use Rattle.rb_code.specs.declared.instr.Spot.TheVariants.{Global, Local}

-- a number: the eight bytes of its two's complement, the highest first
unfoldable pub number : ℤ → List ℕ
number n = to_be_bytes w64 (cast_unsigned w64 n)

-- a number from 0 on
abbrev pub natural : ℕ → List ℕ
natural n = number (pos n)

-- a text: its length, and its bytes
abbrev pub text : List ℕ → List ℕ
text bytes = natural (length bytes) ++ bytes

-- a list: its length, and its items
abbrev pub list : {X : Type 0} → (X → List ℕ) → List X → List ℕ
list item items = natural (length items) ++ flat_map item items

-- an optional number: 0, or 1 and the number
abbrev pub optional : Option ℕ → List ℕ
optional None = natural 0
optional (Some n) = natural 1 ++ natural n

-- a word: 0 where it is one of the process's own, or 1 where it lies above the base of the running call, and its place there
abbrev pub spot : Spot → List ℕ
spot (Global k) = natural 0 ++ natural k
spot (Local k) = natural 1 ++ natural k
