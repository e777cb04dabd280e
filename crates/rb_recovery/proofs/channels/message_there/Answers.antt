-- The two ends, as they were looked up, and the message that the receiver sees.
use Rattle.std.proofs.Common.{◌∙◌, ap, sym, nat_lt, arith}
use Rattle.std.proofs.lemmas.List.{length-map}
use Rattle.rb_world.specs.Slots.{slot_of}
use Rattle.rb_scope.proofs.Long.{got}
use Rattle.rb_code.specs.Instructions.Plain.{code as plain, channel as channel_of, part}
use Rattle.rb_recovery.specs.Channels.{message_given}
use Rattle.rb_recovery.proofs.Passing.CountsRead.{channel_there, receiver_within}
use Rattle.rb_recovery.proofs.Passing.RoomsAndMessages.{given_if, is_of_code, message_is, none_there, sender_has_cursor}
use Rattle.rb_recovery.proofs.channels.message_there.Goals as goal

pub index-requires : goal.index-requires
index-requires g c =
    omega (
      arith,
      receiver_within (plain c.args.code.now).channels c.args.channel c.args.p c.requires.receiver,
      length-map c.args.code.now.channels.items channel_of,
    )

pub seen_count-seen-requires-clause-cursors : goal.seen_count-seen-requires-clause-cursors
seen_count-seen-requires-clause-cursors g c =
    let code = plain c.args.code.now in
    let procs = c.args.procs.now in
    let one = c.index.result.now in
    let within = receiver_within code.channels c.args.channel c.args.p c.requires.receiver in
    let there = channel_there c.args.code.now c.args.channel one within c.index.ensures in
    let sender = got procs one.sender c.index-procs-from.result (omega (arith, c.if-from-procs.false)) c.index-procs-from.is in
    sender_has_cursor code procs c.requires.numbered c.args.channel (channel_of one) c.index-procs-from.result there sender

pub cursor-taken-requires : goal.cursor-taken-requires
cursor-taken-requires g c =
    let receiver = got c.args.procs.now c.args.p c.index-procs-p.result c.requires.process c.index-procs-p.is in
    omega (
      arith,
      is_of_code (plain c.args.code.now) c.args.procs.now c.requires.numbered c.args.p c.index-procs-p.result receiver,
      length-map c.args.code.now.processes.items part,
    )

pub cursor-sent-requires : goal.cursor-sent-requires
cursor-sent-requires g c =
    let one = c.index.result.now in
    let sender = got c.args.procs.now one.sender c.index-procs-from.result (omega (arith, c.if-from-procs.false)) c.index-procs-from.is in
    omega (
      arith,
      is_of_code (plain c.args.code.now) c.args.procs.now c.requires.numbered one.sender c.index-procs-from.result sender,
      length-map c.args.code.now.processes.items part,
    )

pub returns-then-sent-taken-clause-there : goal.returns-then-sent-taken-clause-there
returns-then-sent-taken-clause-there g c groups talks memory =
    let code = plain c.args.code.now in
    let procs = c.args.procs.now in
    let one = c.index.result.now in
    let within = receiver_within code.channels c.args.channel c.args.p c.requires.receiver in
    let there = channel_there c.args.code.now c.args.channel one within c.index.ensures in
    let sender = got procs one.sender c.index-procs-from.result (omega (arith, c.if-from-procs.false)) c.index-procs-from.is in
    let receiver = got procs c.args.p c.index-procs-p.result c.requires.process c.index-procs-p.is in
    none_there code groups procs c.requires.numbered talks memory c.args.channel (channel_of one) there
    c.index-procs-from.result c.index-procs-p.result sender c.requires.risen c.args.p c.cursor-taken.result c.cursor-sent.result c.requires.receiver
    receiver c.cursor-taken.ensures.cursor c.cursor-sent.ensures.cursor (omega (arith, c.if-sent-taken.true))

pub returns-clause-there : goal.returns-clause-there
returns-clause-there g c groups talks memory =
    let code = plain c.args.code.now in
    let procs = c.args.procs.now in
    let one = c.index.result.now in
    let within = receiver_within code.channels c.args.channel c.args.p c.requires.receiver in
    let there = channel_there c.args.code.now c.args.channel one within c.index.ensures in
    let sender = got procs one.sender c.index-procs-from.result (omega (arith, c.if-from-procs.false)) c.index-procs-from.is in
    let receiver = got procs c.args.p c.index-procs-p.result c.requires.process c.index-procs-p.is in
    message_is code groups procs c.requires.numbered talks memory c.args.channel (channel_of one) there
    c.index-procs-from.result c.index-procs-p.result sender c.args.p c.cursor-taken.result c.seen_count-seen.result c.requires.receiver receiver
    c.cursor-taken.ensures.cursor c.seen_count-seen.ensures.cursor
    ∙ (given_if (nat_lt c.cursor-taken.result c.seen_count-seen.result) (slot_of code.channels memory.slots c.args.channel) c.cursor-taken.result
    ∙ ap (message_given code memory.slots c.args.channel) (sym c.then_some.ensures))
