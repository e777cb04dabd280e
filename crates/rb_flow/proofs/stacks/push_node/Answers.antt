use Rattle.std.proofs.Common.{◌+◌, [], get_or, sym, ap, ◌∙◌, subst, length, arith}
use Rattle.rb_flow.specs.Stacks.{AreStacked, stacks_of}
use Rattle.rb_flow.proofs.Stacking.{stacked_more, stacks_long, stacks_more}
use Rattle.rb_flow.proofs.stacks.push_node.Goals as goal

pub returns-in-Ok-clause-list : goal.returns-in-Ok-clause-list
returns-in-Ok-clause-list c = ap stacks_of c.in-Ok.ensures.items ∙ stacks_more c.args.nodes.now.items _

pub returns-in-Ok-clause-number : goal.returns-in-Ok-clause-number
returns-in-Ok-clause-number c = let l = stacks_long c.args.nodes.now.items in omega (arith, c.len-number.ensures)

pub returns-in-Ok-clause-stacked : goal.returns-in-Ok-clause-stacked
returns-in-Ok-clause-stacked c = subst AreStacked (sym c.in-Ok.ensures.items)
    (stacked_more c.args.nodes.now.items _ c.requires.stacked (let l = stacks_long c.args.nodes.now.items in omega (arith, c.requires.below))
    (ap (λ n. n + 1) (c.length_of-under.ensures ∙ ap (λ ns. length (get_or (stacks_of ns) c.args.below [])) c.deref.ensures.value)))

pub returns-in-Err-clause-stacked : goal.returns-in-Err-clause-stacked
returns-in-Err-clause-stacked c = subst AreStacked (sym c.in-Err.ensures.items) c.requires.stacked
