use Rattle.std.proofs.Common.{sym, ap, length, arith}
use Rattle.rb_flow.proofs.Stacking.{empty_at, length_at, stacks_long}
use Rattle.rb_flow.proofs.stacks.length_of.Goals as goal

pub returns-then-at-eq0 : goal.returns-then-at-eq0
returns-then-at-eq0 c = sym (ap length (empty_at c.args.nodes.now c.args.at c.if-at-eq0.true))

pub bounds-nodes-at : goal.bounds-nodes-at
bounds-nodes-at c = let l = stacks_long c.args.nodes.now in omega arith

pub returns : goal.returns
returns c = length_at c.args.nodes.now c.args.at _ c.requires.stacked c.requires.at c.if-at-eq0.false
