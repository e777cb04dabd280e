use Rattle.std.proofs.Common.{refl}
use Rattle.rb_gen.proofs.Rows.{last_call, item_text, item_value}
use Rattle.rb_gen.proofs.simple.emit_item.Goals as goal

pub returns-in-Text : goal.returns-in-Text
returns-in-Text c =
    last_call c.put_text.result c.put_text.ensures (λ h. item_text c.args.slots.now c.in-Text.is h)

pub returns-in_ok-emit_expression-in-Value : goal.returns-in_ok-emit_expression-in-Value
returns-in_ok-emit_expression-in-Value c =
    last_call c.put.result c.put.ensures (λ h. item_value c.args.slots.now c.in-Value.is c.in_ok-emit_expression-in-Value.ensures (h refl))
