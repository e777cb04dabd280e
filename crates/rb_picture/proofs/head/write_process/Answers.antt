use Rattle.rb_outside.proofs.Puts.{puts_both, puts_stopped_at}
use Rattle.rb_picture.proofs.head.write_process.Goals as goal

pub returns-in_err-put_line : goal.returns-in_err-put_line
returns-in_err-put_line g c =
    rw (← c.as_bytes-name.ensures)
    (puts_stopped_at _ _ _ _ _ _ _ c.from_residual.result c.from_residual.ensures.0 c.in_err-put_line.ensures)

pub returns : goal.returns
returns g c =
    rw (← c.as_bytes-name.ensures, ← c.deref.ensures.value)
    (puts_both _ _ _ _ _ _ _ _ _ _ c.in_ok-put_line.ensures c.write_variables.ensures)
