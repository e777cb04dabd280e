use Rattle.std.proofs.Common.{◌+◌, drop, map, arith}
use Rattle.rb_trace.proofs.Written.{written_nothing, written_more, written_part, written_all}
use Rattle.rb_trace.specs.Naming.{naming}
use Rattle.rb_code.specs.Instructions.Plain.{block as plain_block}
use Rattle.rb_picture.specs.Head.{block_head}
use Rattle.rb_changes.specs.Numbered.{numbered}
use Rattle.rb_changes.proofs.Parts.{numbered_end, numbered_next}
use Rattle.rb_picture.proofs.head.write_blocks.Goals as goal

pub loop-b-init : goal.loop-b-init
loop-b-init g c = written_nothing _ _ _

pub loop-b-preserved : goal.loop-b-preserved
loop-b-preserved g c =
    let text = block_head (naming c.args.names.now) in
    let xs = c.args.blocks.now in
    let i = c.loop-b.b in
    let next = numbered_next text plain_block i i xs c.index-blocks-b.result _ (omega (arith, c.loop-b-test.true)) c.index-blocks-b.is in
    written_more _ _ (text i (plain_block c.index-blocks-b.result)) (numbered text (i + 1) (drop (i + 1) (map plain_block xs))) _ _ _ _ _ _
    c.loop-b.invariant next c.in_ok-write_block.ensures

pub returns-in_err-write_block : goal.returns-in_err-write_block
returns-in_err-write_block g c =
    let text = block_head (naming c.args.names.now) in
    let xs = c.args.blocks.now in
    let i = c.loop-b.b in
    let next = numbered_next text plain_block i i xs c.index-blocks-b.result _ (omega (arith, c.loop-b-test.true)) c.index-blocks-b.is in
    written_part _ _ (text i (plain_block c.index-blocks-b.result)) (numbered text (i + 1) (drop (i + 1) (map plain_block xs))) _ _ _ _ _ _ _
    c.from_residual.result c.loop-b.invariant next c.in_err-write_block.ensures c.from_residual.ensures.0

pub returns : goal.returns
returns g c =
    written_all _ _ _ _ _ _ c.loop-b.invariant
    (numbered_end (block_head (naming c.args.names.now)) plain_block _ _ c.args.blocks.now (omega (arith, c.loop-b-test.false)))
