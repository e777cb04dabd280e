use Rattle.std.proofs.Common.{◌≡◌, ◌∙◌, ℕ, Vec, get_or, ap}
use Rattle.std.specs.declared.alloc.Global.{Global}
use Rattle.rb_outside.proofs.Puts.{puts_same}
use Rattle.rb_trace.specs.Naming.{naming}
use Rattle.rb_trace.specs.Report.{out_line}
use Rattle.rb_trace.proofs.Spaced.{puts_next, puts_part}
use Rattle.rb_plain.proofs.playing.write_lines.Goals as goal

pub returns-in_err-write_out : goal.returns-in_err-write_out
returns-in_err-write_out g c =
    let line_text = out_line (naming c.args.names.now) c.args.turn c.args.process in
    let lines = c.args.lines.now in
    let is : c.deref.result.now ≡ (get_or lines c.loop-line.line-index c.line-item.result).items =
    c.deref.ensures.value ∙ ap (λ (line : Vec ℕ Global). line.items) c.line-item.is in
    let next = puts_next
    (λ (line : Vec ℕ Global). line_text line.items) lines c.loop-line.line-index c.line-item.result c.loop-line-test.true _ _ _ _ _ _ _ _ c.loop-line.invariant
    (puts_same _ _ _ _ _ _ _ (ap line_text is) c.in_err-write_out.ensures) in
    puts_part (λ (line : Vec ℕ Global). line_text line.items) lines _ _ _ _ _ _ c.from_residual.result c.from_residual.ensures.0 next
