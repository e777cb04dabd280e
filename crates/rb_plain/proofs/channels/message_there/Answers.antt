-- The message between the two ends.
use Rattle.std.proofs.Common.{◌<◌, ◌≤◌, length, sym, ◌∙◌, arith}
use Rattle.rb_syntax.specs.Plain.{tree}
use Rattle.rb_plain.proofs.LentEnds.{no_message, message_is}
use Rattle.rb_plain.proofs.channels.message_there.Goals as goal

pub returns-then-channel-len : goal.returns-then-channel-len
returns-then-channel-len c =
    let program = c.args.program.now in
    let past : length program.channels.items ≤ c.args.channel = omega (arith, program.channels.ok.0, c.len.ensures, c.if-channel-len.true) in
    sym (no_message program c.args.processes.now c.args.channel past)

pub returns : goal.returns
returns c =
    let program = c.args.program.now in
    let within : c.args.channel < length program.channels.items = omega (arith, program.channels.ok.0, c.len.ensures, c.if-channel-len.false) in
    c.message_between.ensures (tree program)
    ∙ sym (message_is program c.args.processes.now c.args.channel c.index-declared.result.now within c.index-declared.ensures
    c.process_number-sender.result c.process_number-receiver.result c.process_number-sender.ensures c.process_number-receiver.ensures)
