-- The addresses that are kept so that the lowest comes first.
use Rattle.std.specs.Prelude.{ℕ}
use Rattle.std.specs.declared.cmp.Reverse.{Reverse}

abbrev pub waiting : Reverse ℕ → ℕ
waiting one = one.0
