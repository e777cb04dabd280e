use Rattle.std.proofs.Common.{ℕ, decimal, sym}
use Rattle.std.proofs.lemmas.List.Folds.{flat_map-map}
use Rattle.rb_outside.proofs.Puts.{puts_nothing, puts_same}
use Rattle.rb_trace.specs.Lines.{spaced_word}
use Rattle.rb_trace.proofs.Spaced.{puts_next, puts_part, puts_whole}
use Rattle.rb_code.proofs.line.put_alternates.Goals as goal

pub loop-address-init : goal.loop-address-init
loop-address-init g c = puts_nothing _ _ _

pub loop-address-preserved : goal.loop-address-preserved
loop-address-preserved g c =
    puts_next (λ (address : ℕ). spaced_word
    (decimal address)) c.args.alternates.now c.loop-address.address-index _ c.loop-address-test.true _ _ _ _ _ _ _ _ c.loop-address.invariant c.in_ok-put_spaced.ensures

pub returns-in_err-put_spaced : goal.returns-in_err-put_spaced
returns-in_err-put_spaced g c =
    let next = puts_next
    (λ (address : ℕ). spaced_word
    (decimal address)) c.args.alternates.now c.loop-address.address-index _ c.loop-address-test.true _ _ _ _ _ _ _ _ c.loop-address.invariant c.in_err-put_spaced.ensures in
    let all = puts_part
    (λ (address : ℕ). spaced_word
    (decimal address)) c.args.alternates.now _ _ _ _ _ _ c.from_residual.result c.from_residual.ensures.0 next in
    puts_same _ _ _ _ _ _ _ (sym (flat_map-map spaced_word decimal c.args.alternates.now)) all

pub returns : goal.returns
returns g c =
    let all = puts_whole
    (λ (address : ℕ). spaced_word (decimal address)) c.args.alternates.now _ _ _ _ _ _ c.loop-address-test.false c.loop-address.invariant in
    puts_same _ _ _ _ _ _ _ (sym (flat_map-map spaced_word decimal c.args.alternates.now)) all
