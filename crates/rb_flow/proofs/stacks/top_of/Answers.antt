use Rattle.std.proofs.Common.{arith}
use Rattle.rb_flow.proofs.Stacking.{empty_at, top_at, stacks_long}
use Rattle.rb_flow.proofs.stacks.top_of.Goals as goal

pub returns-then-at-eq0 : goal.returns-then-at-eq0
returns-then-at-eq0 c = empty_at c.args.nodes.now c.args.at c.if-at-eq0.true

pub bounds-nodes-at : goal.bounds-nodes-at
bounds-nodes-at c = let l = stacks_long c.args.nodes.now in omega arith

pub returns : goal.returns
returns c = top_at c.args.nodes.now c.args.at _ c.requires.stacked c.requires.at c.if-at-eq0.false
