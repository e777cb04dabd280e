use Rattle.std.proofs.Common.{◌+◌, drop, map, arith}
use Rattle.rb_trace.proofs.Written.{written_nothing, written_more, written_part, written_all}
use Rattle.rb_trace.specs.Naming.{naming}
use Rattle.rb_picture.specs.Heads.{meeting}
use Rattle.rb_picture.specs.Head.{conversation_head}
use Rattle.rb_changes.specs.Numbered.{numbered}
use Rattle.rb_changes.proofs.Parts.{numbered_end, numbered_next}
use Rattle.rb_picture.proofs.head.write_conversations.Goals as goal

pub loop-d-init : goal.loop-d-init
loop-d-init g c = written_nothing _ _ _

pub loop-d-preserved : goal.loop-d-preserved
loop-d-preserved g c =
    let text = conversation_head (naming c.args.names.now) in
    let xs = c.args.groups.now in
    let i = c.loop-d.d in
    let next = numbered_next text meeting i i xs c.index-groups-d.result _ (omega (arith, c.loop-d-test.true)) c.index-groups-d.is in
    written_more _ _ (text i (meeting c.index-groups-d.result)) (numbered text (i + 1) (drop (i + 1) (map meeting xs))) _ _ _ _ _ _
    c.loop-d.invariant next c.in_ok-write_conversation.ensures

pub returns-in_err-write_conversation : goal.returns-in_err-write_conversation
returns-in_err-write_conversation g c =
    let text = conversation_head (naming c.args.names.now) in
    let xs = c.args.groups.now in
    let i = c.loop-d.d in
    let next = numbered_next text meeting i i xs c.index-groups-d.result _ (omega (arith, c.loop-d-test.true)) c.index-groups-d.is in
    written_part _ _ (text i (meeting c.index-groups-d.result)) (numbered text (i + 1) (drop (i + 1) (map meeting xs))) _ _ _ _ _ _ _
    c.from_residual.result c.loop-d.invariant next c.in_err-write_conversation.ensures c.from_residual.ensures.0

pub returns : goal.returns
returns g c =
    written_all _ _ _ _ _ _ c.loop-d.invariant
    (numbered_end (conversation_head (naming c.args.names.now)) meeting _ _ c.args.groups.now (omega (arith, c.loop-d-test.false)))
