-- The two ends of the channel, and what is seen between them.
use Rattle.std.proofs.Common.{◌+◌, ◌-◌, ap, ◌∙◌, arith}
use Rattle.std.proofs.lemmas.List.{length-map}
use Rattle.rb_scope.proofs.Long.{got}
use Rattle.rb_code.specs.Instructions.Plain.{channel as ends_of, code as plain, part}
use Rattle.rb_machine.proofs.Passing.ChannelsLooked.{from_below, looked}
use Rattle.rb_recovery.proofs.Passing.CountsRead.{channel_there, receiver_counts, sender_counts}
use Rattle.rb_recovery.proofs.Passing.RoomsAndMessages.{is_of_code, receiver_has_cursor, sender_has_cursor}
use Rattle.rb_machine.proofs.channel_view.view_at.Goals as goal

pub bounds-procs-ends : goal.bounds-procs-ends
bounds-procs-ends g c =
    let one = c.index-ends.result.now in
    let at = channel_there c.args.code.now c.args.channel one c.requires.channel c.index-ends.ensures in
    (sender_counts (plain c.args.code.now) c.args.procs.now c.requires.counted c.args.channel (ends_of one) at).there

pub bounds-procs-ends-2 : goal.bounds-procs-ends-2
bounds-procs-ends-2 g c =
    let one = c.index-ends.result.now in
    let at = channel_there c.args.code.now c.args.channel one c.requires.channel c.index-ends.ensures in
    (receiver_counts (plain c.args.code.now) c.args.procs.now c.requires.counted c.args.channel (ends_of one) at).there

pub cursor-sent-requires : goal.cursor-sent-requires
cursor-sent-requires g c =
    let code = plain c.args.code.now in
    let one = c.index-ends.result.now in
    let at = channel_there c.args.code.now c.args.channel one c.requires.channel c.index-ends.ensures in
    let there = (sender_counts code c.args.procs.now c.requires.counted c.args.channel (ends_of one) at).there in
    let sender = got c.args.procs.now one.sender c.index-procs-ends.result there c.index-procs-ends.is in
    omega (
      arith,
      is_of_code code c.args.procs.now c.requires.counted.numbered one.sender c.index-procs-ends.result sender,
      length-map c.args.code.now.processes.items part,
    )

pub cursor-taken-requires : goal.cursor-taken-requires
cursor-taken-requires g c =
    let code = plain c.args.code.now in
    let one = c.index-ends.result.now in
    let at = channel_there c.args.code.now c.args.channel one c.requires.channel c.index-ends.ensures in
    let there = (receiver_counts code c.args.procs.now c.requires.counted c.args.channel (ends_of one) at).there in
    let receiver = got c.args.procs.now one.receiver c.index-procs-ends-2.result there c.index-procs-ends-2.is in
    omega (
      arith,
      is_of_code code c.args.procs.now c.requires.counted.numbered one.receiver c.index-procs-ends-2.result receiver,
      length-map c.args.code.now.processes.items part,
    )

pub seen_count-seen-requires-clause-cursors : goal.seen_count-seen-requires-clause-cursors
seen_count-seen-requires-clause-cursors g c =
    let code = plain c.args.code.now in
    let one = c.index-ends.result.now in
    let at = channel_there c.args.code.now c.args.channel one c.requires.channel c.index-ends.ensures in
    let there = (sender_counts code c.args.procs.now c.requires.counted c.args.channel (ends_of one) at).there in
    let sender = got c.args.procs.now one.sender c.index-procs-ends.result there c.index-procs-ends.is in
    sender_has_cursor code c.args.procs.now c.requires.counted.numbered c.args.channel (ends_of one) c.index-procs-ends.result at sender

pub room_from-from-requires : goal.room_from-from-requires
room_from-from-requires g c =
    let code = plain c.args.code.now in
    let one = c.index-ends.result.now in
    let at = channel_there c.args.code.now c.args.channel one c.requires.channel c.index-ends.ensures in
    let there = (receiver_counts code c.args.procs.now c.requires.counted c.args.channel (ends_of one) at).there in
    let receiver = got c.args.procs.now one.receiver c.index-procs-ends-2.result there c.index-procs-ends-2.is in
    record {
      cursors = receiver_has_cursor code c.args.procs.now c.requires.counted.numbered c.args.channel (ends_of one) c.index-procs-ends-2.result at receiver;
    }

pub room_left-free-requires : goal.room_left-free-requires
room_left-free-requires g c =
    let code = plain c.args.code.now in
    let one = c.index-ends.result.now in
    let at = channel_there c.args.code.now c.args.channel one c.requires.channel c.index-ends.ensures in
    let end = receiver_counts code c.args.procs.now c.requires.counted c.args.channel (ends_of one) at in
    let receiver = got c.args.procs.now one.receiver c.index-procs-ends-2.result end.there c.index-procs-ends-2.is in
    omega (
      arith,
      c.room_from-from.ensures.cursor,
      from_below code c.args.procs.now c.requires.counted c.requires.copies one.receiver c.args.channel c.index-procs-ends-2.result receiver end.among,
    )

pub returns-clause-view : goal.returns-clause-view
returns-clause-view g c groups =
    let code = plain c.args.code.now in
    let procs = c.args.procs.now in
    let one = c.index-ends.result.now in
    let at = channel_there c.args.code.now c.args.channel one c.requires.channel c.index-ends.ensures in
    let start = sender_counts code procs c.requires.counted c.args.channel (ends_of one) at in
    let end = receiver_counts code procs c.requires.counted c.args.channel (ends_of one) at in
    let sender = got procs one.sender c.index-procs-ends.result start.there c.index-procs-ends.is in
    let receiver = got procs one.receiver c.index-procs-ends-2.result end.there c.index-procs-ends-2.is in
    looked code groups procs c.requires.counted.numbered c.args.channel (ends_of one) at c.index-procs-ends.result c.index-procs-ends-2.result
    sender receiver _ c.cursor-sent.ensures.cursor c.cursor-taken.ensures.cursor c.seen_count-seen.ensures.cursor
    (c.room_left-free.ensures ∙ ap (λ n. one.size + n - c.cursor-sent.result) c.room_from-from.ensures.cursor)
