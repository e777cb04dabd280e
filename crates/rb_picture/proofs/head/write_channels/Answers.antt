use Rattle.std.proofs.Common.{◌+◌, drop, map, refl, arith}
use Rattle.rb_trace.proofs.Written.{written_nothing, written_more, written_part, written_all}
use Rattle.rb_trace.specs.Naming.{naming}
use Rattle.rb_code.specs.Instructions.Plain.{channel as plain_channel}
use Rattle.rb_picture.specs.Head.{channel_head}
use Rattle.rb_changes.specs.Numbered.{numbered}
use Rattle.rb_changes.proofs.Parts.{numbered_end, numbered_next}
use Rattle.rb_picture.proofs.head.write_channels.Goals as goal

pub loop-c-init : goal.loop-c-init
loop-c-init g c = written_nothing _ _ _

pub loop-c-preserved : goal.loop-c-preserved
loop-c-preserved g c =
    let text = channel_head (naming c.args.names.now) in
    let xs = c.args.channels.now in
    let i = c.loop-c.c in
    let next = numbered_next text plain_channel i i xs _ _ (omega (arith, c.loop-c-test.true)) refl in
    written_more _ _ _ (numbered text (i + 1) (drop (i + 1) (map plain_channel xs))) _ _ _ _ _ _
    c.loop-c.invariant next c.in_ok-write_channel.ensures

pub returns-in_err-write_channel : goal.returns-in_err-write_channel
returns-in_err-write_channel g c =
    let text = channel_head (naming c.args.names.now) in
    let xs = c.args.channels.now in
    let i = c.loop-c.c in
    let next = numbered_next text plain_channel i i xs _ _ (omega (arith, c.loop-c-test.true)) refl in
    written_part _ _ _ (numbered text (i + 1) (drop (i + 1) (map plain_channel xs))) _ _ _ _ _ _ _
    c.from_residual.result c.loop-c.invariant next c.in_err-write_channel.ensures c.from_residual.ensures.0

pub returns : goal.returns
returns g c =
    written_all _ _ _ _ _ _ c.loop-c.invariant
    (numbered_end (channel_head (naming c.args.names.now)) plain_channel _ _ c.args.channels.now (omega (arith, c.loop-c-test.false)))
