use Rattle.std.proofs.Common.{◌+◌, Option, slice_get, ap, sym}
use Rattle.rb_code.specs.Instructions.Plain.{code as plain}
use Rattle.rb_code.specs.WordMachine.Turn.{wants_there}
use Rattle.rb_code.specs.declared.instr.Instr.{Instr}
use Rattle.rb_code.specs.declared.instr.Instr.TheVariants.{Done}
use Rattle.rb_proc.specs.Process.{wanted_by}
use Rattle.rb_proc.proofs.Listed.{read_there}
use Rattle.rb_proc.proofs.wants.want_at.Goals as goal

pub returns-in-Some-Done : goal.returns-in-Some-Done
returns-in-Some-Done c =
    let found = c.in-Some-Done.ensures.lookup in
    let there = read_there c.deref.result.now c.args.code.now.instrs.items c.args.at c.in-Some-Done.field-0.now Done c.deref.ensures.value found.3.0 found.1
    c.in-Some-Done.field-0-is in
    let code = plain c.args.code.now in
    sym (ap (λ (o : Option Instr). wanted_by (wants_there code o (slice_get code.instrs (c.args.at + 1)))) there)
