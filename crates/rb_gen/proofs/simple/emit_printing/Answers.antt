use Rattle.std.proofs.Common.{refl}
use Rattle.rb_gen.proofs.Rows.{last_call, then_adds}
use Rattle.rb_gen.proofs.simple.emit_printing.Goals as goal

pub returns : goal.returns
returns c =
    last_call c.put-2.result c.put-2.ensures (λ h. then_adds (c.in_ok-put.ensures refl) (then_adds c.in_ok-emit_items.ensures (h refl)))
