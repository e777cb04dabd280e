use Rattle.std.proofs.Common.{◌+ℤ◌, pos, ℤ, sym, ◌∙◌, ap, Ok, Err, w64, rules, to_z, ◌-◌, ◌+◌}
use Rattle.std.proofs.lemmas.Result.{err_from_is_err_and}
use Rattle.std.proofs.lemmas.Int.{to_z-of_z}
use Rattle.rb_syntax.specs.Plain.{expression as plain}
use Rattle.rb_syntax.proofs.Bridge.{expression_prior, expression_quantified, expression_value}
use Rattle.rb_meaning.specs.Value.{Outcome, fitting, sum_from, value}
use Rattle.rb_walk.specs.Counters.{body_values, counted}
use Rattle.rb_walk.proofs.Spans.{every_trap, every_stop, every_on, some_trap, some_stop, some_on, sum_trap, sum_on, is_zero_bits, not_zero_bits}
use Rattle.rb_walk.proofs.value.+value.Goals as goal

pub every_from-returns-in_err-body_at : goal.every_from-returns-in_err-body_at
every_from-returns-in_err-body_at t c =
    let f : ℤ → Outcome = body_values c.args.environment.now c.args.prior.now c.args.counters.now c.args.over.now in
    let p = err_from_is_err_and c.from_residual.result c.from_residual.ensures.1 in
    rw (p.1, p.2) (sym
    (sym c.loop-step.invariant
    ∙ every_trap c.args.numbers.count c.loop-step.step c.args.numbers.first f c.in_err-body_at.field-0.0 c.loop-step-test.true
    (sym c.in_err-body_at.ensures)))

pub every_from-returns-then-branch-eq0 : goal.every_from-returns-then-branch-eq0
every_from-returns-then-branch-eq0 t c =
    let f : ℤ → Outcome = body_values c.args.environment.now c.args.prior.now c.args.counters.now c.args.over.now in
    sym (sym c.loop-step.invariant
    ∙ every_stop c.args.numbers.count c.loop-step.step c.args.numbers.first f c.in_ok-body_at.field-0 c.loop-step-test.true
    (sym c.in_ok-body_at.ensures) (is_zero_bits c.in_ok-body_at.field-0 (search rules) c.if-branch-eq0.true))

pub every_from-loop-step-preserved : goal.every_from-loop-step-preserved
every_from-loop-step-preserved t c =
    let f : ℤ → Outcome = body_values c.args.environment.now c.args.prior.now c.args.counters.now c.args.over.now in
    sym (every_on c.args.numbers.count c.loop-step.step c.args.numbers.first f c.in_ok-body_at.field-0 c.loop-step-test.true
    (sym c.in_ok-body_at.ensures) (not_zero_bits c.in_ok-body_at.field-0 c.if-branch-eq0.false))
    ∙ c.loop-step.invariant

pub some_from-returns-in_err-body_at : goal.some_from-returns-in_err-body_at
some_from-returns-in_err-body_at t c =
    let f : ℤ → Outcome = body_values c.args.environment.now c.args.prior.now c.args.counters.now c.args.over.now in
    let p = err_from_is_err_and c.from_residual.result c.from_residual.ensures.1 in
    rw (p.1, p.2) (sym
    (sym c.loop-step.invariant
    ∙ some_trap c.args.numbers.count c.loop-step.step c.args.numbers.first f c.in_err-body_at.field-0.0 c.loop-step-test.true
    (sym c.in_err-body_at.ensures)))

pub some_from-returns-then-branch-ne0 : goal.some_from-returns-then-branch-ne0
some_from-returns-then-branch-ne0 t c =
    let f : ℤ → Outcome = body_values c.args.environment.now c.args.prior.now c.args.counters.now c.args.over.now in
    sym (sym c.loop-step.invariant
    ∙ some_stop c.args.numbers.count c.loop-step.step c.args.numbers.first f c.in_ok-body_at.field-0 c.loop-step-test.true
    (sym c.in_ok-body_at.ensures) (not_zero_bits c.in_ok-body_at.field-0 c.if-branch-ne0.true))

pub some_from-loop-step-preserved : goal.some_from-loop-step-preserved
some_from-loop-step-preserved t c =
    let f : ℤ → Outcome = body_values c.args.environment.now c.args.prior.now c.args.counters.now c.args.over.now in
    sym (some_on c.args.numbers.count c.loop-step.step c.args.numbers.first f c.in_ok-body_at.field-0 c.loop-step-test.true
    (sym c.in_ok-body_at.ensures) (is_zero_bits c.in_ok-body_at.field-0 (search rules) c.if-branch-ne0.false))
    ∙ c.loop-step.invariant

pub sum_from-returns-in_err-value : goal.sum_from-returns-in_err-value
sum_from-returns-in_err-value t c =
    let f : ℤ → Outcome = body_values c.args.environment.now c.args.prior.now c.args.counters.now c.args.over.now in
    let p = err_from_is_err_and c.from_residual.result c.from_residual.ensures.1 in
    rw (p.1, p.2) (sym
    (sym c.loop-step.invariant
    ∙ sum_trap c.args.numbers.count c.loop-step.step c.args.numbers.first f
    (to_z w64 c.loop-step.total-bits) c.in_err-value.field-0.0 c.loop-step-test.true
    (sym c.in_err-value.ensures)))

pub sum_from-returns-in_err-total : goal.sum_from-returns-in_err-total
sum_from-returns-in_err-total t c =
    let f : ℤ → Outcome = body_values c.args.environment.now c.args.prior.now c.args.counters.now c.args.over.now in
    let p = err_from_is_err_and c.from_residual-in_err-total.result c.from_residual-in_err-total.ensures.1 in
    let total = to_z w64 c.loop-step.total-bits in
    let added = ap (λ v. fitting (total +ℤ v)) (sym (to_z-of_z w64 c.in_ok-value.value (search rules))) ∙ sym c.in_err-total.ensures in
    rw (p.1, p.2) (sym
    (sym c.loop-step.invariant
    ∙ sum_on c.args.numbers.count c.loop-step.step c.args.numbers.first f total c.in_ok-value.value
    (Err c.in_err-total.field-0.0) c.loop-step-test.true (sym c.in_ok-value.ensures) added))

pub sum_from-loop-step-preserved : goal.sum_from-loop-step-preserved
sum_from-loop-step-preserved t c =
    let f : ℤ → Outcome = body_values c.args.environment.now c.args.prior.now c.args.counters.now c.args.over.now in
    let total = to_z w64 c.loop-step.total-bits in
    let added = ap (λ v. fitting (total +ℤ v)) (sym (to_z-of_z w64 c.in_ok-value.value (search rules))) ∙ sym c.in_ok-total.ensures in
    let rest : ℤ → Outcome = sum_from (c.args.numbers.count - (c.loop-step.step + 1)) (c.args.numbers.first +ℤ pos (c.loop-step.step + 1)) f in
    ap rest (to_z-of_z w64 c.in_ok-total.total (search rules))
    ∙ sym (sum_on c.args.numbers.count c.loop-step.step c.args.numbers.first f total c.in_ok-value.value
    (Ok c.in_ok-total.total) c.loop-step-test.true (sym c.in_ok-value.ensures) added)
    ∙ c.loop-step.invariant

pub value_of-returns-in-Value : goal.value_of-returns-in-Value
value_of-returns-in-Value t c =
    let at = value c.args.environment.now c.args.prior.now (counted c.args.counters.now) in
    c.read.ensures ∙ sym (ap (λ e. at (plain e)) c.in-Value.is ∙ ap at (expression_value c.in-Value.target))

pub value_of-returns-in-Prior : goal.value_of-returns-in-Prior
value_of-returns-in-Prior t c =
    let at = value c.args.environment.now c.args.prior.now (counted c.args.counters.now) in
    c.read-in-Prior.ensures ∙ sym (ap (λ e. at (plain e)) c.in-Prior.is ∙ ap at (expression_prior c.in-Prior.field-0 c.in-Prior.target))

pub value_of-returns-in-Quantified : goal.value_of-returns-in-Quantified
value_of-returns-in-Quantified t c =
    let at = value c.args.environment.now c.args.prior.now (counted c.args.counters.now) in
    let over = c.in-Quantified.quantified in
    c.over_span.ensures
    ∙ sym (ap (λ e. at (plain e)) c.in-Quantified.is
    ∙ ap at (expression_quantified over.kind over.place over.name over.low over.high over.body))
