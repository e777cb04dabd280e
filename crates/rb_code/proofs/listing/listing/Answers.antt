use Rattle.std.proofs.Common.{map}
use Rattle.rb_outside.proofs.Puts.{puts_both}
use Rattle.rb_trace.specs.Naming.{naming}
use Rattle.rb_code.specs.Instructions.Plain.{block, part}
use Rattle.rb_code.specs.Instructions.Listing.{block_lines, heads_from, instr_lines}
use Rattle.rb_code.proofs.listing.listing.Goals as goal

pub returns : goal.returns
returns g c =
    let code = c.args.code.now in
    puts_both (instr_lines code.texts.items 0 (heads_from (naming code.names) 0 (map part code.processes.items)) code.instrs.items)
    (block_lines (naming code.names) 0 (map block code.blocks.items)) _ _ _ _ _ _ _ _ c.in_ok-put_instrs.ensures c.put_blocks.ensures
