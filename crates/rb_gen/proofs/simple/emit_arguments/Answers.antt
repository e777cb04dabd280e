use Rattle.rb_gen.proofs.Slices.{split, none_left, no_argument, one_argument}
use Rattle.rb_gen.proofs.simple.emit_arguments.Goals as goal

pub returns : goal.returns
returns c = c.arguments.invariant _ (no_argument c.args.slots.now c.arguments.rest.now _ (none_left c.arguments.rest.now c.in_default.len_below))

pub arguments-preserved : goal.arguments-preserved
arguments-preserved c = λ after h.
    c.arguments.invariant after
    (one_argument c.args.slots.now c.argument-item.result
    (split c.arguments.rest.now c.argument-item.result c.in-len1-up.len_at_least c.argument-item.is) c.in_ok-emit_expression.ensures h)
