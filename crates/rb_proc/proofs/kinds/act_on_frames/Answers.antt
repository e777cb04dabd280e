use Rattle.std.proofs.Common.{ap, sym, ◌∙◌}
use Rattle.rb_code.specs.Instructions.Plain.{code as plain}
use Rattle.rb_code.specs.WordMachine.Act.{act as acted}
use Rattle.rb_code.specs.declared.instr.Instr.{Instr}
use Rattle.rb_proc.specs.Outcomes.{mem}
use Rattle.rb_proc.specs.Sees.{see_of}
use Rattle.rb_proc.proofs.kinds.act_on_frames.Goals as goal

pub returns-in-Return-clause-moved : goal.returns-in-Return-clause-moved
returns-in-Return-clause-moved g c pieces counters slots =
    let code = plain c.args.code.now in
    let see = see_of c.args.sight.now c.args.memory.now.levels in
    let operands = c.args.operands.now in
    c.go_back.ensures.moved code see operands pieces counters slots
    ∙ ap (λ (i : Instr). acted code see i c.args.at operands (mem c.args.memory.now pieces counters slots)) (sym c.in-Return.is)
