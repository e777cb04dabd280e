-- How often what is known at an address can be weakened, where no list has more operands than these: once for each operand that is below a
-- number, once for its mode, and once more where nothing is known.
use Rattle.std.specs.Prelude.{ℕ, zero, suc, ◌+◌, ◌^◌, List, [], ◌∷◌, length, Option, Some, None}
use Rattle.rb_code.specs.SoundCode.Sound.{Entry, Mode, Table, Changed}
use Rattle.rb_entries.specs.declared.cell.Cell.{Cell}
use Rattle.rb_flow.specs.declared.lists.Lists.{Lists}
use Rattle.rb_search.specs.Found.{found}

abbrev pub bound : Option ℕ → ℕ
bound None = 0
bound (Some n) = 1

abbrev pub bounds : List (Option ℕ) → ℕ
bounds [] = 0
bounds (o ∷ os) = bound o + bounds os

abbrev pub unchanged : Mode → ℕ
unchanged Changed = 0
unchanged _ = 1

abbrev pub weight : ℕ → Option Entry → ℕ
weight most None = most + 2
weight most (Some e) = bounds e.operands + unchanged e.mode

-- of the first n addresses of a table
abbrev pub total : ℕ → ℕ → Table → ℕ
total most zero t = 0
total most (suc n) t = weight most (t n) + total most n t

-- The most that is left to do: how often addresses can be weakened, and how many are to be followed. The length of a list is a number of 32 bits.
abbrev pub left : Lists → List Cell → List ℕ → ℕ
left lists cells work = total (2 ^ 32) (length cells) (found lists cells) + length work
