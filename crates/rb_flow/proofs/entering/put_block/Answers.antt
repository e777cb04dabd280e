use Rattle.std.proofs.Common.{◌+◌, refl}
use Rattle.rb_code.specs.Instructions.Plain.{code as plain}
use Rattle.rb_entries.specs.declared.entry.Mode.TheVariants.{Changed}
use Rattle.rb_flow.proofs.Chosen.{block_flow}
use Rattle.rb_flow.proofs.entering.put_block.Goals as goal

pub returns : goal.returns
returns c =
    let number = c.in-Ok.ensures.number
    in block_flow (plain c.args.code.now) (c.args.at + 1) c.args.lists.now
    (record { operands = c.args.lists.now.operands; blocks = c.push.new.self }) c.args.entry
    (record c.args.entry { operands = c.empty-empty.result; blocks = c.in-Ok.blocks; mode = Changed }) c.args.block c.empty-empty.result
    c.requires.held
    refl c.in-Ok.ensures.list c.empty-empty.ensures.list c.empty-empty.ensures.there
    (λ i. record c.args.entry { operands = c.empty-empty.result; blocks = number i; mode = Changed })
