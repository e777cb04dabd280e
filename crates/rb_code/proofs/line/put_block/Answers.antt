use Rattle.std.proofs.Common.{[], ◌∷◌, ◌++◌, codes, map, decimal}
use Rattle.rb_outside.proofs.Puts.{puts_both, puts_same, puts_stopped_at}
use Rattle.rb_trace.specs.Naming.{naming}
use Rattle.rb_trace.specs.Lines.{spaced}
use Rattle.rb_code.specs.Instructions.Limits.{block_limits}
use Rattle.rb_code.specs.Instructions.Plain.{block}
use Rattle.rb_code.specs.Instructions.Listing.{block_kind}
use Rattle.rb_code.proofs.Listed.{block_parts}
use Rattle.rb_code.proofs.line.put_block.Goals as goal

pub returns-in_err-put_block_place : goal.returns-in_err-put_block_place
returns-in_err-put_block_place g c =
    let one = c.args.block.now in
    puts_same _ _ _ _ _ _ _ (block_parts (naming c.args.names.now) c.args.number (block one))
    (puts_stopped_at (codes "block" ++ spaced (decimal c.args.number ∷ codes "line" ∷ decimal one.line ∷ []))
    (spaced (block_kind (naming c.args.names.now) one.conversation)
    ++ (block_limits one.bound one.restart one.test ++ (spaced (map decimal one.alternates.items) ++ 10 ∷ [])))
    _ _ _ _ _ c.from_residual.result c.from_residual.ensures.0 c.in_err-put_block_place.ensures)

pub returns : goal.returns
returns g c =
    let one = c.args.block.now in
    puts_same _ _ _ _ _ _ _ (block_parts (naming c.args.names.now) c.args.number (block one))
    (puts_both (codes "block" ++ spaced (decimal c.args.number ∷ codes "line" ∷ decimal one.line ∷ []))
    (spaced (block_kind (naming c.args.names.now) one.conversation)
    ++ (block_limits one.bound one.restart one.test ++ (spaced (map decimal one.alternates.items) ++ 10 ∷ [])))
    _ _ _ _ _ _ _ _ c.in_ok-put_block_place.ensures c.put_block_rest.ensures)
