use Rattle.std.proofs.Common.{ℤ, sym}
use Rattle.std.proofs.lemmas.List.Folds.{flat_map-map}
use Rattle.std.specs.Fmt.{signed_decimal}
use Rattle.rb_outside.proofs.Puts.{puts_nothing, puts_same}
use Rattle.rb_trace.specs.Lines.{spaced_word}
use Rattle.rb_trace.proofs.Spaced.{puts_next, puts_part, puts_whole}
use Rattle.rb_trace.proofs.ending.put_values.Goals as goal

pub loop-value-init : goal.loop-value-init
loop-value-init g c = puts_nothing _ _ _

pub loop-value-preserved : goal.loop-value-preserved
loop-value-preserved g c =
    puts_next (λ (value : ℤ). spaced_word
    (signed_decimal value)) c.args.values.now c.loop-value.value-index _ c.loop-value-test.true _ _ _ _ _ _ _ _ c.loop-value.invariant c.in_ok-put_value.ensures

pub returns-in_err-put_value : goal.returns-in_err-put_value
returns-in_err-put_value g c =
    let next = puts_next
    (λ (value : ℤ). spaced_word
    (signed_decimal value)) c.args.values.now c.loop-value.value-index _ c.loop-value-test.true _ _ _ _ _ _ _ _ c.loop-value.invariant c.in_err-put_value.ensures in
    let all = puts_part
    (λ (value : ℤ). spaced_word
    (signed_decimal value)) c.args.values.now _ _ _ _ _ _ c.from_residual.result c.from_residual.ensures.0 next in
    puts_same _ _ _ _ _ _ _ (sym (flat_map-map spaced_word signed_decimal c.args.values.now)) all

pub returns : goal.returns
returns g c =
    let all = puts_whole
    (λ (value : ℤ). spaced_word (signed_decimal value)) c.args.values.now _ _ _ _ _ _ c.loop-value-test.false c.loop-value.invariant in
    puts_same _ _ _ _ _ _ _ (sym (flat_map-map spaced_word signed_decimal c.args.values.now)) all
