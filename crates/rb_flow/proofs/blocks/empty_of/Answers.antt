use Rattle.std.proofs.Common.{arith, refl}
use Rattle.rb_flow.proofs.Blocking.{empty_at, blocks_long}
use Rattle.rb_flow.proofs.blocks.empty_of.Goals as goal

pub returns-clause-list : goal.returns-clause-list
returns-clause-list c = empty_at c.args.nodes.now 0 refl

pub returns-clause-there : goal.returns-clause-there
returns-clause-there c = let l = blocks_long c.args.nodes.now in omega arith
