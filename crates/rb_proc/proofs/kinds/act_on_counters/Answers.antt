use Rattle.std.proofs.Common.{ap, sym, ◌∙◌}
use Rattle.rb_code.specs.Instructions.Plain.{Code}
use Rattle.rb_code.specs.WordMachine.Workspace.{Workspace}
use Rattle.rb_code.specs.WordMachine.Act.{Sight, act as acted}
use Rattle.rb_code.specs.declared.instr.Instr.{Instr}
use Rattle.rb_proc.proofs.kinds.act_on_counters.Goals as goal

pub returns-in-Range : goal.returns-in-Range
returns-in-Range c = record {
  moved = λ (code : Code) (see : Sight) (m : Workspace).
      c.range.ensures m
      ∙ ap (λ (i : Instr). acted code see i c.args.at c.args.operands.now (record m { counters = c.args.counters.now })) (sym c.in-Range.is);
}

pub returns-in-Again : goal.returns-in-Again
returns-in-Again c = record {
  moved = λ (code : Code) (see : Sight) (m : Workspace).
      c.again.ensures m c.args.operands.now
      ∙ ap (λ (i : Instr). acted code see i c.args.at c.args.operands.now (record m { counters = c.args.counters.now })) (sym c.in-Again.is);
}

pub returns-in-Counter : goal.returns-in-Counter
returns-in-Counter c = record {
  moved = λ (code : Code) (see : Sight) (m : Workspace).
      c.counter.ensures m
      ∙ ap (λ (i : Instr). acted code see i c.args.at c.args.operands.now (record m { counters = c.args.counters.now })) (sym c.in-Counter.is);
}
