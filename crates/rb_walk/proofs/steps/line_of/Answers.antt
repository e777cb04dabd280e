use Rattle.std.proofs.Common.{◌≡◌, ◌<◌, length, Err, rules, arith}
use Rattle.rb_walk.proofs.Lines.{line_halts}
use Rattle.rb_walk.proofs.steps.line_of.Goals as goal

pub returns-in_err-put_item : goal.returns-in_err-put_item
returns-in_err-put_item c =
    let same : c.from_residual-in_err-put_item.result ≡ Err c.in_err-put_item.field-0.0 = search rules in
    let within : c.loop-item.item-index < length c.args.items.now = omega arith in
    rw same
    (line_halts c.args.environment.now c.args.items.now c.loop-item.item-index c.item-item.result c.loop-item.first c.loop-item.line.items
    c.put_blank.new.line.items c.put_item.new.line.items c.in_err-put_item.field-0.0 c.loop-item.invariant within c.item-item.is c.in_err-put_item.ensures)
