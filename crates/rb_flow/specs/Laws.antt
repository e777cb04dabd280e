-- The laws of rules.
use Rattle.std.specs.Prelude.{◌↔◌, ℕ, List}
use Rattle.rb_code.specs.declared.instr.Instr.{Instr}
use Rattle.rb_code.specs.Instructions.Plain.{Code}
use Rattle.rb_world.specs.Kind.{Membership}
use Rattle.rb_code.specs.SoundCode.Sound.{Entry, Fine, IsWeaker, Table}
use Rattle.rb_flow.specs.Flow.{Keeps, flow, flow_at}

-- a rule is kept in a table exactly if the table takes the steps that the instruction leads to
abbrev pub RuleIsFlow : Type 0
RuleIsFlow = (c : Code) (groups : List Membership) (t : Table) (instr : Instr) (a : ℕ) (e : Entry)
    → Fine c groups t instr a e ↔ Keeps t (flow c groups instr a e)

-- a table that takes the steps from a weaker entry takes those from a stronger one
abbrev pub FlowIsMonotone : Type 0
FlowIsMonotone = (c : Code) (groups : List Membership) (t : Table) (a : ℕ) (e g : Entry) → IsWeaker e g
    → Keeps t (flow_at c groups a g) → Keeps t (flow_at c groups a e)
