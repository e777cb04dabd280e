use Rattle.rb_lists.proofs.Each.{all_hold, one_fails, one_passes, shorter}
use Rattle.rb_lists.proofs.rule.all_allowed.Goals as goal

pub items-smaller : goal.items-smaller
items-smaller g c = shorter c.items.rest.now c.in-len1-up.len_at_least

pub items-preserved : goal.items-preserved
items-preserved g c =
    one_passes (g.R.Allows.Law c.args.rule.now) _ c.items.rest.now c.item-item.result _ c.allows.result c.in-len1-up.len_at_least
    c.item-item.is c.allows.ensures c.if-not-allows.false c.items.invariant

pub returns-then-not-allows : goal.returns-then-not-allows
returns-then-not-allows g c =
    one_fails (g.R.Allows.Law c.args.rule.now) _ c.items.rest.now c.item-item.result _ c.allows.result c.in-len1-up.len_at_least
    c.item-item.is c.allows.ensures c.if-not-allows.true c.items.invariant

pub returns : goal.returns
returns g c = all_hold (g.R.Allows.Law c.args.rule.now) _ c.items.rest.now c.in_default.len_below c.items.invariant
