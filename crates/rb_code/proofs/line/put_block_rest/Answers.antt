use Rattle.std.proofs.Common.{[], ◌∷◌, ◌++◌, map, decimal}
use Rattle.rb_outside.proofs.Puts.{puts_both}
use Rattle.rb_trace.specs.Naming.{naming}
use Rattle.rb_trace.specs.Lines.{spaced}
use Rattle.rb_code.specs.Instructions.Limits.{block_limits}
use Rattle.rb_code.specs.Instructions.Listing.{block_kind}
use Rattle.rb_code.proofs.line.put_block_rest.Goals as goal

pub returns : goal.returns
returns g c =
    let block = c.args.block.now in
    puts_both (spaced (block_kind (naming c.args.names.now) block.conversation))
    (block_limits block.bound block.restart block.test ++ (spaced (map decimal block.alternates.items) ++ 10 ∷ [])) _ _ _ _ _ _ _ _
    c.in_ok-put_block_kind.ensures c.put_block_addresses.ensures
