-- A counter as the word machine has it.
use Rattle.std.specs.Prelude.{Bool, cond, Option, Some, None}
use Rattle.rb_code.specs.WordMachine.Workspace.{Counting as Counts}
use Rattle.rb_operands.specs.declared.counters.Counting.{Counting}

abbrev pub counting_of : Counting → Counts
counting_of counter = record { now = counter.now; end = counter.end }

-- the counter, if it is set
abbrev pub set_if : Bool → Counting → Option Counts
set_if is_set counter = cond is_set (Some (counting_of counter)) None
