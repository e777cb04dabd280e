-- A receipt asks for its message by the number of its channel.
use Rattle.std.proofs.Common.{ap, sym, ◌∙◌}
use Rattle.rb_syntax.specs.Plain.{command, otherwise, tree}
use Rattle.rb_syntax.proofs.Bridge.{command_assign, command_call, command_print, command_receive, command_recover, command_send}
use Rattle.rb_world.specs.Kind.{SendsOn}
use Rattle.rb_meaning.specs.Step.{wants, wants_receipt}
use Rattle.rb_plain.proofs.want.want_of.Goals as goal

pub returns-in-Receive : goal.returns-in-Receive
returns-in-Receive c =
    let plain = tree c.args.program.now in
    let found = c.in-Receive in
    c.receipt.ensures plain (command c.args.statement.now)
    (ap (λ s. wants plain (command s)) found.is
    ∙ ap (wants plain) (command_receive found.channel found.field-1 found.other)
    ∙ ap (λ n. wants_receipt n (otherwise found.other)) (sym c.channel_number-in-Receive.ensures))

pub returns-in-Send : goal.returns-in-Send
returns-in-Send c =
    let plain = tree c.args.program.now in
    ap (λ s. wants plain (command s)) c.in-Send.is
    ∙ ap (wants plain) (command_send c.in-Send.channel c.in-Send.field-1)
    ∙ ap SendsOn (sym c.channel_number.ensures)

pub returns-in-Recover : goal.returns-in-Recover
returns-in-Recover c = ap command c.in-Recover.is ∙ command_recover c.in-Recover.block

pub returns-in-Assign : goal.returns-in-Assign
returns-in-Assign c =
    let plain = tree c.args.program.now in
    ap (λ s. wants plain (command s)) c.in-Assign.is ∙ ap (wants plain) (command_assign c.in-Assign.field-0 c.in-Assign.field-1)

pub returns-in-Print : goal.returns-in-Print
returns-in-Print c =
    let plain = tree c.args.program.now in
    ap (λ s. wants plain (command s)) c.in-Print.is ∙ ap (wants plain) (command_print c.in-Print.field-0)

pub returns-in-Call : goal.returns-in-Call
returns-in-Call c =
    let plain = tree c.args.program.now in
    ap (λ s. wants plain (command s)) c.in-Call.is ∙ ap (wants plain) (command_call c.in-Call.field-0 c.in-Call.field-1)
