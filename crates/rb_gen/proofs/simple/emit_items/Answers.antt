use Rattle.rb_gen.proofs.Slices.{split, none_left, no_item, one_item}
use Rattle.rb_gen.proofs.simple.emit_items.Goals as goal

pub returns : goal.returns
returns c = c.items.invariant _ (no_item c.args.slots.now c.items.rest.now _ (none_left c.items.rest.now c.in_default.len_below))

pub items-preserved : goal.items-preserved
items-preserved c = λ after h.
    c.items.invariant after
    (one_item c.args.slots.now c.item-item.result
    (split c.items.rest.now c.item-item.result c.in-len1-up.len_at_least c.item-item.is) c.in_ok-emit_item.ensures h)
