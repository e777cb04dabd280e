use Rattle.std.proofs.Common.{pos, option_map, Some, ap, sym, ◌∙◌, rules, w64}
use Rattle.std.proofs.lemmas.Int.{to_z-of_z}
use Rattle.rb_world.proofs.ListFacts.{slice_get-there}
use Rattle.rb_code.specs.Instructions.Plain.{channel as ends_of, code as plain}
use Rattle.rb_recovery.proofs.Passing.CountsRead.{channel_there, sender_counts, sent_is}
use Rattle.rb_machine.proofs.reading.sent_on.Goals as goal

pub cursor_at-requires-clause-end : goal.cursor_at-requires-clause-end
cursor_at-requires-clause-end g c =
    let one = c.index.result.now in
    let at = channel_there c.args.code.now c.args.channel one c.requires.channel c.index.ensures in
    sender_counts (plain c.args.code.now) c.args.procs.now c.requires.counted c.args.channel (ends_of one) at

pub returns-clause-sent : goal.returns-clause-sent
returns-clause-sent g c =
    let one = c.index.result.now in
    let at = channel_there c.args.code.now c.args.channel one c.requires.channel c.index.ensures in
    let counts = sender_counts (plain c.args.code.now) c.args.procs.now c.requires.counted c.args.channel (ends_of one) at in
    let found = slice_get-there c.args.procs.now one.sender counts.there in
    ap (option_map pos) (sent_is (plain c.args.code.now) c.args.procs.now c.requires.counted c.args.channel (ends_of one) at found.0 found.1)
    ∙ ap Some (sym (c.cursor_at.ensures.cursor found.0 found.1) ∙ sym (to_z-of_z w64 c.cursor_at.result (search rules)))
