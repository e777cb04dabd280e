use Rattle.std.proofs.Common.{refl, ap, sym, ◌∙◌}
use Rattle.rb_code.specs.Instructions.Plain.{code as plain}
use Rattle.rb_code.specs.WordMachine.Act.{act as acted}
use Rattle.rb_code.specs.declared.instr.Instr.{Instr}
use Rattle.rb_proc.specs.Outcomes.{mem}
use Rattle.rb_proc.specs.Sees.{see_of}
use Rattle.rb_proc.proofs.Listed.{process_listed}
use Rattle.rb_proc.proofs.kinds.act_on_channel.Goals as goal

pub returns-in-Put-clause-moved : goal.returns-in-Put-clause-moved
returns-in-Put-clause-moved g c pieces counters =
    let code = plain c.args.code.now in
    let see = see_of c.args.sight.now c.args.memory.now.levels in
    c.put_value.ensures.moved see pieces counters refl
    ∙ ap (λ (i : Instr). acted code see i c.args.at c.args.operands.now (mem c.args.memory.now pieces counters c.args.mails.now))
    (sym c.in-Put.is)

pub returns-in-Take-clause-moved : goal.returns-in-Take-clause-moved
returns-in-Take-clause-moved g c pieces counters =
    let code = plain c.args.code.now in
    let see = see_of c.args.sight.now c.args.memory.now.levels in
    c.take_message.ensures.moved see pieces counters c.args.mails.now refl
    ∙ ap (λ (i : Instr). acted code see i c.args.at c.args.operands.now (mem c.args.memory.now pieces counters c.args.mails.now))
    (sym c.in-Take.is)

pub put_value-requires-clause-process : goal.put_value-requires-clause-process
put_value-requires-clause-process g c = process_listed c.args.code.now c.args.sight.now.process c.requires.turn.exists

pub take_message-requires-clause-process : goal.take_message-requires-clause-process
take_message-requires-clause-process g c = process_listed c.args.code.now c.args.sight.now.process c.requires.turn.exists
