-- Each answer tells what the process is ready for.
use Rattle.std.proofs.Common.{ap, sym, ◌∙◌}
use Rattle.rb_world.proofs.ListFacts.{slice_get-there}
use Rattle.rb_code.specs.Instructions.Plain.{code as plain}
use Rattle.rb_code.specs.WordMachine.Turn.{want}
use Rattle.rb_ready.proofs.Wanting.{is_room}
use Rattle.rb_ready.specs.Receipts.{is_receipt_that_waits}
use Rattle.rb_recovery.specs.Work.{is_entry}
use Rattle.rb_ready.proofs.Naming.{is_no_entry}
use Rattle.rb_ready.proofs.Readying.{enters_ready, idles_ready, receipt_here, receipt_is_no_entry, receiver_here, steps_ready}
use Rattle.rb_ready.proofs.readiness.ready.Goals as goal

pub send-requires-clause-wants : goal.send-requires-clause-wants
send-requires-clause-wants g c one there =
    is_room (want (plain c.args.code.now) one.process.state) c.in-Room.channel (sym (c.requires.wanted one there) ∙ c.in-Room.is)

pub receive-requires-clause-receiver : goal.receive-requires-clause-receiver
receive-requires-clause-receiver g c =
    let here = slice_get-there c.args.procs.now c.args.p c.requires.process in
    receiver_here (plain c.args.code.now) c.args.procs.now c.args.mails.now c.args.p c.args.wanted c.requires.wanted c.in-Message.channel c.in-Message.is
    here.0 here.1 c.requires.receiver

pub receive-requires-clause-wants : goal.receive-requires-clause-wants
receive-requires-clause-wants g c one there =
    receipt_here (plain c.args.code.now) c.args.procs.now c.args.mails.now c.args.p c.args.wanted c.requires.wanted c.in-Message.channel c.in-Message.is
    one there c.waits_for_message.result (c.waits_for_message.ensures ∙ ap is_receipt_that_waits c.in-Message.wanted-is)

pub returns-in-Room-clause-ready : goal.returns-in-Room-clause-ready
returns-in-Room-clause-ready g c = c.send.ensures.ready c.args.mails.now

pub returns-in-Idle-clause-ready : goal.returns-in-Idle-clause-ready
returns-in-Idle-clause-ready g c = idles_ready (plain c.args.code.now) c.args.procs.now c.args.mails.now c.args.p c.args.wanted c.requires.wanted c.in-Idle.is

pub returns-in-Entry-clause-ready : goal.returns-in-Entry-clause-ready
returns-in-Entry-clause-ready g c =
    enters_ready (plain c.args.code.now) c.args.procs.now c.args.mails.now c.args.p c.args.wanted c.requires.wanted c.in-Entry.block c.in-Entry.is

pub returns-in-Start-clause-ready : goal.returns-in-Start-clause-ready
returns-in-Start-clause-ready g c = steps_ready (plain c.args.code.now) c.args.procs.now c.args.mails.now c.args.p c.args.wanted c.requires.wanted c.in-Start.is

-- who wants room or a message is ready for no entry
pub returns-in-Room-clause-entry : goal.returns-in-Room-clause-entry
returns-in-Room-clause-entry g c entry =
    let code = plain c.args.code.now in
    let here = slice_get-there c.args.procs.now c.args.p c.requires.process in
    let wants = is_room (want code here.0.process.state) c.in-Room.channel (sym (c.requires.wanted here.0 here.1) ∙ c.in-Room.is) in
    absurd (is_no_entry code c.args.procs.now c.args.mails.now c.args.p c.send.result here.0 (c.send.ensures.ready c.args.mails.now) here.1 (ap is_entry wants) entry)

pub returns-in-Message-clause-entry : goal.returns-in-Message-clause-entry
returns-in-Message-clause-entry g c entry =
    let code = plain c.args.code.now in
    let procs = c.args.procs.now in
    let here = slice_get-there procs c.args.p c.requires.process in
    let waits = c.waits_for_message.result in
    let wants = receipt_here code procs c.args.mails.now c.args.p c.args.wanted c.requires.wanted c.in-Message.channel c.in-Message.is here.0 here.1 waits
    (c.waits_for_message.ensures ∙ ap is_receipt_that_waits c.in-Message.wanted-is) in
    absurd (is_no_entry code procs c.args.mails.now c.args.p c.receive.result here.0 c.receive.ensures.ready here.1
    (ap is_entry wants ∙ receipt_is_no_entry waits c.in-Message.channel) entry)
