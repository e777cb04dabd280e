use Rattle.std.proofs.Common.{refl}
use Rattle.rb_gen.proofs.Rows.{last_call, send_row}
use Rattle.rb_gen.proofs.simple.emit_sending.Goals as goal

pub returns : goal.returns
returns c =
    last_call c.put-3.result c.put-3.ensures (λ h. send_row c.channel_of-number.ensures (c.in_ok-put.ensures refl)
    (c.in_ok-put-2.ensures refl) c.in_ok-emit_expression.ensures (h refl))
