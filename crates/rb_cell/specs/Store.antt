-- What contracts see of a list of counted words. This project's own.
use Rattle.std.specs.Prelude.{ℕ, ℤ, List}

-- the words, and how many of them there is room for
pub record Store : Type 0 where
  pub words : List ℤ
  pub limit : ℕ
