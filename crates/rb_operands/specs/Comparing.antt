-- Comparisons, and where they lead.
use Rattle.std.specs.Prelude.{ℕ, ◌+◌, ℤ, Bool, cond, List, ◌∷◌, Option, Some}
use Rattle.rb_meaning.specs.Value.{truth}
use Rattle.rb_code.specs.WordMachine.Workspace.{Workspace}
use Rattle.rb_code.specs.WordMachine.Act.{Going, Outcome}
use Rattle.rb_code.specs.declared.instr.Instr.{Instr}
use Rattle.rb_code.specs.declared.instr.Instr.TheVariants.{JumpZero}
use Rattle.rb_syntax.specs.declared.expression.Op.{Op}
use Rattle.rb_syntax.specs.declared.expression.Op.TheVariants.{Eq, Ne, Lt, Le, Gt, Ge}

-- the operators that compare
abbrev pub IsComparison : Op → Type 0
IsComparison Eq = Unit {0}
IsComparison Ne = Unit {0}
IsComparison Lt = Unit {0}
IsComparison Le = Unit {0}
IsComparison Gt = Unit {0}
IsComparison Ge = Unit {0}
IsComparison op = ⊥

-- Where a comparison leads of which it is known whether it holds, by the instruction behind it, at the next address: a jump that is taken where it
-- does not hold is taken or passed at once, and before anything else the truth is pushed.
abbrev pub decided : Option Instr → ℕ → Bool → List ℤ → Workspace → Outcome
decided (Some (JumpZero to)) next holds operands m = Going (cond holds (next + 1) to) operands m
decided _ next holds operands m = Going next (truth holds ∷ operands) m
