use Rattle.std.proofs.Common.{sym, ◌∙◌}
use Rattle.rb_asking.proofs.Digits.{above_stays}
use Rattle.rb_asking.proofs.number.value_of.Goals as goal

pub returns-in_err-value : goal.returns-in_err-value
returns-in_err-value c =
    c.from_residual.ensures
    ∙ sym (above_stays c.loop-rest.value c.loop-rest.rest.now c.args.digits.now c.in-len1-up.len_at_least c.loop-rest.invariant.0
    (sym c.add_digit.ensures ∙ c.in_err-value.was))
