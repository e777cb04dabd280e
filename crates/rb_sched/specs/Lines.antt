-- What a line asks for, apart from how many turns came before it.
use Rattle.std.specs.Prelude.{ℕ, ◌+◌, ◌==◌, nat_lt, ◌||◌, cond, List, length, Result, Ok, Err}
use Rattle.rb_base.specs.declared.fault.FaultName.{FaultName}
use Rattle.rb_base.specs.declared.fault.FaultName.TheVariants.{T3, T4}
use Rattle.rb_base.specs.declared.limits.TheConstants.{MOST_TURNS}

-- a count that a line may have
abbrev pub counted : ℕ → Result ℕ FaultName
counted n = cond (n == 0 || nat_lt MOST_TURNS n) (Err T3) (Ok n)

-- a line's turns, unless they are too many with those that came before
abbrev pub fitting : ℕ → List ℕ → Result (List ℕ) FaultName
fitting before turns = cond (nat_lt MOST_TURNS (before + length turns)) (Err T4) (Ok turns)
