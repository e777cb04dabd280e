-- The room between the two ends.
use Rattle.std.proofs.Common.{◌<◌, ◌≤◌, length, sym, ◌∙◌, arith}
use Rattle.rb_syntax.specs.Plain.{tree}
use Rattle.rb_plain.proofs.LentEnds.{no_room, room_between}
use Rattle.rb_plain.proofs.channels.has_room.Goals as goal

pub returns-then-channel-len : goal.returns-then-channel-len
returns-then-channel-len c =
    let program = c.args.program.now in
    let past : length program.channels.items ≤ c.args.channel = omega (arith, program.channels.ok.0, c.len.ensures, c.if-channel-len.true) in
    sym (no_room program c.args.processes.now c.args.channel past)

pub returns : goal.returns
returns c =
    let program = c.args.program.now in
    let within : c.args.channel < length program.channels.items = omega (arith, program.channels.ok.0, c.len.ensures, c.if-channel-len.false) in
    c.has_room_between.ensures (tree program)
    ∙ sym (room_between program c.args.processes.now c.args.channel c.index-declared.result.now within c.index-declared.ensures
    c.process_number-sender.result c.process_number-receiver.result c.process_number-sender.ensures c.process_number-receiver.ensures)
