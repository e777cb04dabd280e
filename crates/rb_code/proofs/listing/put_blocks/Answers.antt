use Rattle.std.proofs.Common.{◌≡◌, ◌+◌, List, drop, map, length, get_or, ap, ◌∙◌, arith}
use Rattle.rb_trace.specs.Naming.{naming}
use Rattle.rb_trace.proofs.Written.{written_more, written_part}
use Rattle.rb_code.specs.Instructions.Plain.{block}
use Rattle.rb_code.specs.declared.code.BlockCode.{BlockCode}
use Rattle.rb_code.specs.Instructions.Listing.{block_line, block_lines}
use Rattle.rb_code.proofs.Listed.{block_next}
use Rattle.rb_code.proofs.listing.put_blocks.Goals as goal

pub loop-number-preserved : goal.loop-number-preserved
loop-number-preserved g c =
    let blocks = c.args.code.now.blocks.items in
    let names = naming c.args.code.now.names in
    let b = c.loop-number.number in
    let one = c.block-item.result in
    let same = c.deref-block-items.ensures.value in
    let is : one ≡ get_or blocks b one = c.block-item.is ∙ ap (λ (xs : List BlockCode). get_or xs b one) same in
    let next = block_next block names blocks b one (omega (arith, c.loop-number-test.true, ap length same)) is in
    written_more _ _ (block_line names b (block one))
    (block_lines names (b + 1) (map block (drop (b + 1) blocks))) _ _ _ _ _ _ c.loop-number.invariant next c.in_ok-put_block.ensures

pub returns-in_err-put_block : goal.returns-in_err-put_block
returns-in_err-put_block g c =
    let blocks = c.args.code.now.blocks.items in
    let names = naming c.args.code.now.names in
    let b = c.loop-number.number in
    let one = c.block-item.result in
    let same = c.deref-block-items.ensures.value in
    let is : one ≡ get_or blocks b one = c.block-item.is ∙ ap (λ (xs : List BlockCode). get_or xs b one) same in
    let next = block_next block names blocks b one (omega (arith, c.loop-number-test.true, ap length same)) is in
    written_part _ _ (block_line names b (block one))
    (block_lines names (b + 1)
    (map block (drop
    (b + 1) blocks))) _ _ _ _ _ _ _ c.from_residual.result c.loop-number.invariant next c.in_err-put_block.ensures c.from_residual.ensures.0
