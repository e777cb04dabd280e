-- The process that stands at the number is ready, with the statement first; and what comes of it comes of its world.
use Rattle.std.proofs.Common.{None, not, get_or, ap, sym, ◌∙◌}
use Rattle.std.proofs.lemmas.Option.{slice_get-get_or}
use Rattle.rb_syntax.specs.Plain.{command, recovery_block, tree}
use Rattle.rb_levels.specs.Moves.{entered_by, performed_by}
use Rattle.rb_levels.specs.Worlds.{process_of, world_of}
use Rattle.rb_plain.proofs.ActedWorlds.{acts, enters, may_receive, receives, receives_not, sends, sends_not}
use Rattle.rb_plain.proofs.MovedProcesses.{moved_there}
use Rattle.rb_plain.proofs.turn.perform.Goals as goal

pub enter-requires-clause-ready : goal.enter-requires-clause-ready
enter-requires-clause-ready c =
    let d = c.index-processes-p.result in
    let processes = c.args.processes.now in
    (c.requires.first (get_or processes c.args.kept.process d) (slice_get-get_or processes c.args.kept.process d c.requires.process)).0

pub perform-requires : goal.perform-requires
perform-requires c =
    let d = c.index-processes-p-in-Nothing.result in
    let processes = c.args.processes.now in
    (c.requires.first (get_or processes c.args.kept.process d) (slice_get-get_or processes c.args.kept.process d c.requires.process)).1

pub perform-requires-then-has_room : goal.perform-requires-then-has_room
perform-requires-then-has_room c =
    let d = c.index-processes-p-then-has_room.result in
    let processes = c.args.processes.now in
    (c.requires.first (get_or processes c.args.kept.process d) (slice_get-get_or processes c.args.kept.process d c.requires.process)).1

pub perform-requires-in-MessageOrElse : goal.perform-requires-in-MessageOrElse
perform-requires-in-MessageOrElse c =
    let d = c.index-processes-p-in-MessageOrElse.result in
    let processes = c.args.processes.now in
    (c.requires.first (get_or processes c.args.kept.process d) (slice_get-get_or processes c.args.kept.process d c.requires.process)).1

pub returns-in-Level : goal.returns-in-Level
returns-in-Level c = λ one there.
    let plain = tree c.args.program.now in
    let processes = c.args.processes.now in
    let block = recovery_block c.in-Level.block.now in
    moved_there plain c.args.kept processes one c.index-processes-p.result there (entered_by plain block) c.enter.new.process c.enter.result
    (enters plain c.args.kept (process_of one) (world_of plain processes) c.requires.alternate (command c.args.statement.now)
    (c.requires.first one there).1 block c.in-Level.ensures)
    c.enter.ensures

pub returns-in-Nothing : goal.returns-in-Nothing
returns-in-Nothing c = λ one there.
    let plain = tree c.args.program.now in
    let processes = c.args.processes.now in
    let statement = command c.args.statement.now in
    moved_there plain c.args.kept processes one c.index-processes-p-in-Nothing.result there (performed_by plain None statement)
    c.perform.new.self c.perform.result
    (acts plain c.args.kept (process_of one) (world_of plain processes) c.requires.alternate statement
    (c.requires.first one there).1 c.in-Nothing.ensures)
    c.perform.ensures

pub returns-then-has_room : goal.returns-then-has_room
returns-then-has_room c = λ one there.
    let plain = tree c.args.program.now in
    let processes = c.args.processes.now in
    let statement = command c.args.statement.now in
    moved_there plain c.args.kept processes one c.index-processes-p-then-has_room.result there (performed_by plain None statement)
    c.perform-then-has_room.new.self c.perform-then-has_room.result
    (sends plain c.args.kept (process_of one) (world_of plain processes) c.requires.alternate statement
    (c.requires.first one there).1 c.in-Room.channel c.in-Room.ensures (sym c.has_room.ensures ∙ c.if-has_room.true))
    c.perform-then-has_room.ensures

pub returns-in-MessageOrElse : goal.returns-in-MessageOrElse
returns-in-MessageOrElse c = λ one there.
    let plain = tree c.args.program.now in
    let processes = c.args.processes.now in
    let statement = command c.args.statement.now in
    moved_there plain c.args.kept processes one c.index-processes-p-in-MessageOrElse.result there
    (performed_by plain c.message_there-message-in-MessageOrElse.result statement)
    c.perform-in-MessageOrElse.new.self c.perform-in-MessageOrElse.result
    (may_receive plain c.args.kept (process_of one) (world_of plain processes) c.requires.alternate statement
    (c.requires.first one there).1 c.in-MessageOrElse.channel c.message_there-message-in-MessageOrElse.result c.in-MessageOrElse.ensures c.message_there-message-in-MessageOrElse.ensures)
    c.perform-in-MessageOrElse.ensures

pub returns-else-is_none : goal.returns-else-is_none
returns-else-is_none c = λ one there.
    let plain = tree c.args.program.now in
    let processes = c.args.processes.now in
    let statement = command c.args.statement.now in
    moved_there plain c.args.kept processes one c.index-processes-p-in-Message.result there
    (performed_by plain c.message_there-message.result statement)
    c.perform-in-Message.new.self c.perform-in-Message.result
    (receives plain c.args.kept (process_of one) (world_of plain processes) c.requires.alternate statement
    (c.requires.first one there).1 c.in-Message.channel c.message_there-message.result c.in-Message.ensures c.message_there-message.ensures
    (c.is_none.ensures ∙ ap not c.if-is_none.false))
    c.perform-in-Message.ensures

pub returns-else-has_room : goal.returns-else-has_room
returns-else-has_room c = λ one there.
    let plain = tree c.args.program.now in
    sends_not plain c.args.kept (process_of one) (world_of plain c.args.processes.now) c.requires.alternate (command c.args.statement.now)
    (c.requires.first one there).1 c.in-Room.channel c.in-Room.ensures (sym c.has_room.ensures ∙ c.if-has_room.false)

pub returns-then-is_none : goal.returns-then-is_none
returns-then-is_none c = λ one there.
    let plain = tree c.args.program.now in
    receives_not plain c.args.kept (process_of one) (world_of plain c.args.processes.now) c.requires.alternate (command c.args.statement.now)
    (c.requires.first one there).1 c.in-Message.channel c.message_there-message.result c.in-Message.ensures c.message_there-message.ensures
    (c.is_none.ensures ∙ ap not c.if-is_none.true)
