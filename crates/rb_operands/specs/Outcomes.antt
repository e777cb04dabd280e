-- What the answers of instructions stand for.
use Rattle.std.specs.Prelude.{ℕ, ◌+◌, ℤ, List, ◌∷◌}
use Rattle.rb_meaning.specs.Value.{truth}
use Rattle.rb_code.specs.WordMachine.Workspace.{Workspace}
use Rattle.rb_code.specs.WordMachine.Act.{Accepts, Going, Outcome, Stopped, Trapped}
use Rattle.rb_operands.specs.declared.next.Next.{Next}
use Rattle.rb_operands.specs.declared.next.Next.TheVariants as next
use Rattle.rb_operands.specs.declared.next.Ended.{Ended}
use Rattle.rb_operands.specs.declared.next.Ended.TheVariants as ended

abbrev pub outcome_of : Next → ℕ → List ℤ → Workspace → Outcome
outcome_of (next.Go b) a operands m = Going b operands m
outcome_of (next.Holds holds) a operands m = Going (a + 1) (truth holds ∷ operands) m
outcome_of next.Stop a operands m = Stopped a m
outcome_of (next.Accepts b) a operands m = Accepts b m
outcome_of (next.Trap cause) a operands m = Trapped cause

abbrev pub ended_of : Ended → Workspace → Outcome
ended_of (ended.Stop a done) m = Stopped a m
ended_of (ended.Accepts a) m = Accepts a m
ended_of (ended.Trap cause) m = Trapped cause

-- the address of an end, or else this one
abbrev pub stop_at : Ended → ℕ → ℕ
stop_at (ended.Stop a done) at = a
stop_at _ at = at
