use Rattle.std.proofs.Common.{refl}
use Rattle.rb_code.specs.declared.instr.Instr.TheVariants.{Turn}
use Rattle.rb_proc.proofs.Listed.{read_there}
use Rattle.rb_proc.proofs.wants.turn_at.Goals as goal

pub returns-in-Some-Turn : goal.returns-in-Some-Turn
returns-in-Some-Turn c =
    let found = c.in-Some-Turn.ensures.lookup in
    let there = read_there c.deref.result.now c.args.code.now.instrs.items c.args.at c.in-Some-Turn.field-0.now Turn c.deref.ensures.value found.3.0 found.1
    c.in-Some-Turn.field-0-is in
    (refl, there)
