-- The two ends, as they were looked up, and the room between them.
use Rattle.std.proofs.Common.{◌∙◌, sym, nat_lt, ◌+◌, arith}
use Rattle.std.proofs.lemmas.List.{length-map}
use Rattle.rb_scope.proofs.Long.{got}
use Rattle.rb_code.specs.Instructions.Plain.{code as plain, channel as channel_of, part}
use Rattle.rb_recovery.proofs.Passing.RoomsAndMessages.{channel_lent, compared, is_of_code, receiver_has_cursor, room_is}
use Rattle.rb_recovery.proofs.channels.has_room.Goals as goal

pub room_from-from-requires : goal.room_from-from-requires
room_from-from-requires g c =
    let found = c.in-Some.ensures.lookup in
    let ends = channel_of c.in-Some.ends.now in
    let there = channel_lent c.args.code.now c.deref.result.now c.args.channel c.in-Some.ends.now c.deref.ensures.value found.3.0 found.1 in
    let receiver = got c.args.procs.now ends.receiver c.index-procs-receiver.result (omega (arith, c.if-receiver-procs.false)) c.index-procs-receiver.is in
    record {
      cursors = receiver_has_cursor (plain c.args.code.now) c.args.procs.now c.requires.numbered c.args.channel ends
          c.index-procs-receiver.result there receiver;
    }

pub returns-clause-room : goal.returns-clause-room
returns-clause-room g c groups talks memory =
    let found = c.in-Some.ensures.lookup in
    let ends = channel_of c.in-Some.ends.now in
    let there = channel_lent c.args.code.now c.deref.result.now c.args.channel c.in-Some.ends.now c.deref.ensures.value found.3.0 found.1 in
    let sender = got c.args.procs.now ends.sender c.index-procs-sender.result (omega (arith, c.if-sender-procs.false)) c.index-procs-sender.is in
    let receiver = got c.args.procs.now ends.receiver c.index-procs-receiver.result (omega (arith, c.if-receiver-procs.false)) c.index-procs-receiver.is in
    c.is_within.ensures
    ∙ (compared (λ m n. nat_lt m (ends.size + n)) _ _ _ _ c.cursor-sent.ensures.cursor c.room_from-from.ensures.cursor
    ∙ sym (room_is (plain c.args.code.now) groups c.args.procs.now c.requires.numbered talks memory c.args.channel ends there
    c.index-procs-sender.result c.index-procs-receiver.result sender receiver))

pub cursor-sent-requires : goal.cursor-sent-requires
cursor-sent-requires g c =
    let ends = channel_of c.in-Some.ends.now in
    let sender = got c.args.procs.now ends.sender c.index-procs-sender.result (omega (arith, c.if-sender-procs.false)) c.index-procs-sender.is in
    omega (
      arith,
      is_of_code (plain c.args.code.now) c.args.procs.now c.requires.numbered ends.sender c.index-procs-sender.result sender,
      length-map c.args.code.now.processes.items part,
    )
