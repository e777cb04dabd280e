use Rattle.rb_outside.proofs.Puts.{puts_nothing}
use Rattle.rb_page.specs.Escape.{escaped_byte}
use Rattle.rb_trace.proofs.Spaced.{puts_next, puts_part, puts_whole}
use Rattle.rb_page.proofs.escape.put_escaped.Goals as goal

pub loop-byte-init : goal.loop-byte-init
loop-byte-init g c = puts_nothing _ _ _

pub returns-in_err-put_byte : goal.returns-in_err-put_byte
returns-in_err-put_byte g c =
    puts_part escaped_byte c.args.text.now _ _ _ _ _ _ c.from_residual.result c.from_residual.ensures.0
    (puts_next escaped_byte c.args.text.now c.loop-byte.byte-index _ c.loop-byte-test.true _ _ _ _ _ _ _ _ c.loop-byte.invariant c.in_err-put_byte.ensures)

pub loop-byte-preserved : goal.loop-byte-preserved
loop-byte-preserved g c =
    puts_next escaped_byte c.args.text.now c.loop-byte.byte-index _ c.loop-byte-test.true _ _ _ _ _ _ _ _ c.loop-byte.invariant c.in_ok-put_byte.ensures

pub returns : goal.returns
returns g c = puts_whole escaped_byte c.args.text.now _ _ _ _ _ _ c.loop-byte-test.false c.loop-byte.invariant
