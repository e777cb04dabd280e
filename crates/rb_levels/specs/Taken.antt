-- What is answered of a kept turn that was taken, or is stuck.
use Rattle.std.specs.Prelude.{◌≡◌, ℕ, Option, Some, None, Result, Ok, Err}
use Rattle.rb_meaning.specs.PlainRun.{PlainWorld}
use Rattle.rb_levels.specs.declared.answer.PlainAnswer.{PlainAnswer}
use Rattle.rb_levels.specs.declared.answer.PlainAnswer.TheVariants.{Stuck, WriteFault, Memory}

-- A turn of this number was taken to a new world, or it is stuck there. Want of memory says nothing.
abbrev pub TakesTurn : ℕ → Option PlainWorld → PlainWorld → Result (Unit {0}) PlainAnswer → Type 0
TakesTurn t moved new (Ok done) = moved ≡ Some new
TakesTurn t moved new (Err (Stuck u)) = (moved ≡ None) × (u ≡ t)
TakesTurn t moved new (Err WriteFault) = ⊥
TakesTurn t moved new (Err Memory) = Unit {0}
