-- The members of the conversation, and none where there is no conversation.
use Rattle.std.proofs.Common.{◌<◌, ◌≤◌, length, map, slice_get, ap, ◌∙◌, arith}
use Rattle.std.specs.List.{list_all}
use Rattle.rb_world.specs.Turn.{stands_there}
use Rattle.rb_levels.specs.Worlds.{process_of}
use Rattle.rb_plain.proofs.TestLines.{all_stand_is, none_missing}
use Rattle.rb_plain.proofs.test_line.do_all_stand.Goals as goal

pub returns-then-conversation-len : goal.returns-then-conversation-len
returns-then-conversation-len c = λ tree has.
    let groups = c.args.nested.now.conversations in
    let past : length groups.items ≤ c.args.conversation = omega (arith, groups.ok.0, c.len.ensures, c.if-conversation-len.true) in
    none_missing tree c.args.nested.now c.args.processes.now c.args.conversation has past

pub returns : goal.returns
returns c = λ tree has.
    let d = c.args.conversation in
    let processes = c.args.processes.now in
    let groups = c.args.nested.now.conversations in
    let within : d < length groups.items = omega (arith, groups.ok.0, c.len.ensures, c.if-conversation-len.false) in
    c.do_stand.ensures
    ∙ ap (list_all (λ m. stands_there d (slice_get (map process_of processes) m))) c.deref.ensures.value
    ∙ all_stand_is tree c.args.nested.now processes d has c.index.result.now within c.index.ensures
