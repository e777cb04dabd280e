use Rattle.std.proofs.Common.{◌≡◌, ◌<◌, ◌^◌, length}
use Rattle.rb_base.specs.Bytes.{digits_value}
use Rattle.rb_asking.proofs.number.value_of.Given as goal

-- what was read and what is left stand for the number
abbrev pub invariant-loop-rest : goal.invariant-loop-rest
invariant-loop-rest l = (digits_value l.value l.rest ≡ digits_value 0 l.digits) × (l.value < 2 ^ 64)

abbrev pub decreases-loop-rest : goal.decreases-loop-rest
decreases-loop-rest l = length l.rest
