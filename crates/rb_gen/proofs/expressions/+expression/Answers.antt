use Rattle.std.proofs.Common.{rules, ◌≡◌, refl, ap, sym, arith, ◌+◌, drop, w64}
use Rattle.std.proofs.lemmas.Grind.{common_steps}
use Rattle.std.proofs.lemmas.Int.{to_z-of_z}
use Rattle.std.proofs.lemmas.Result.{IfOk-weaker}
use Rattle.rb_syntax.specs.Plain.{expression as plain, identifier, links_of, subscript}
use Rattle.rb_syntax.specs.Tree.{NoLink, Minus, Negation, Chained, Quantification, Element, Linked, Literal, Variable, Former, Refer}
use Rattle.rb_syntax.proofs.Bridge.{trees}
use Rattle.rb_code.specs.declared.instr.Instr.TheVariants.{Jump, JumpZero, Prior, LoadAt, PriorAt}
use Rattle.rb_code.specs.Agreement.Template.{One}
use Rattle.rb_draft.specs.Output.{output}
use Rattle.rb_draft.proofs.Emits.{labelled, filled, both, at}
use Rattle.rb_gen.proofs.QuantifiedRows.{and_row, every_of, some_of, sum_of}
use Rattle.rb_gen.proofs.Rows.{last_call, same_expression, literal, value, former, minus, negation, chained, quantification, scalar, counted, element, no_link, of_every, of_some, of_sum, one_link, op_and, op_or, simple}
use Rattle.rb_gen.proofs.expressions.+expression.Goals as goal

pub emit_expression-returns-in-Number : goal.emit_expression-returns-in-Number
emit_expression-returns-in-Number t c =
    let is : plain c.args.expression.now ≡ Literal c.in-Number.number = grind (arith, trees) in
    last_call c.put.result c.put.ensures (λ h. literal c.args.slots.now _ is (to_z-of_z w64 c.in-Number.number.value (search rules)) (h refl))

pub emit_expression-returns-in-Value : goal.emit_expression-returns-in-Value
emit_expression-returns-in-Value t c =
    let is : plain c.args.expression.now ≡ Variable (Refer (identifier c.in-Value.target.name) (subscript c.in-Value.target.index)) =
    grind (arith, trees) in
    last_call c.emit_value.result c.emit_value.ensures (λ h. value c.args.slots.now is h)

pub emit_expression-returns-in-Prior : goal.emit_expression-returns-in-Prior
emit_expression-returns-in-Prior t c =
    let is : plain c.args.expression.now
    ≡ Former c.in-Prior.field-0 (Refer (identifier c.in-Prior.target.name) (subscript c.in-Prior.target.index)) =
    grind (arith, trees) in
    last_call c.emit_prior.result c.emit_prior.ensures (λ h. former c.args.slots.now is h)

pub emit_expression-returns-in_ok-emit_expression-in-Neg : goal.emit_expression-returns-in_ok-emit_expression-in-Neg
emit_expression-returns-in_ok-emit_expression-in-Neg t c =
    let is : plain c.args.expression.now ≡ Minus (plain c.deref.result.now) = grind (arith, trees) in
    last_call c.put-in-Neg.result c.put-in-Neg.ensures (λ h. minus c.args.slots.now is c.in_ok-emit_expression-in-Neg.ensures (h refl))

pub emit_expression-returns-in_ok-emit_expression-in-Not : goal.emit_expression-returns-in_ok-emit_expression-in-Not
emit_expression-returns-in_ok-emit_expression-in-Not t c =
    let is : plain c.args.expression.now ≡ Negation (plain c.deref-in-Not.result.now) = grind (arith, trees) in
    last_call c.put-in-Not.result c.put-in-Not.ensures (λ h. negation c.args.slots.now is c.in_ok-emit_expression-in-Not.ensures (h refl))

pub emit_expression-returns-in_ok-emit_expression-in-Chain : goal.emit_expression-returns-in_ok-emit_expression-in-Chain
emit_expression-returns-in_ok-emit_expression-in-Chain t c =
    let is : plain c.args.expression.now ≡ Chained (plain c.deref-in-Chain.result.now) (links_of c.deref-in-Chain-2.result.now) =
    grind (arith, trees) in
    last_call c.emit_links.result c.emit_links.ensures (λ h. chained c.args.slots.now is c.in_ok-emit_expression-in-Chain.ensures h)

pub emit_expression-returns-in-Quantified : goal.emit_expression-returns-in-Quantified
emit_expression-returns-in-Quantified t c =
    let q = c.in-Quantified.quantified in
    let is : plain c.args.expression.now
    ≡ Quantification q.kind q.place (identifier q.name) (plain q.low.value) (plain q.high.value) (plain q.body.value) =
    grind (arith, trees) in
    last_call c.emit_quantified.result c.emit_quantified.ensures (λ h. quantification c.args.slots.now is h)

pub emit_value-returns-in-None : goal.emit_value-returns-in-None
emit_value-returns-in-None t c =
    last_call c.put_scalar.result c.put_scalar.ensures (λ h. counted c.args.slots.now _ _ _ (ap subscript c.in-None.is) c.counter_of.ensures c.spot_of-spot.ensures h)

pub emit_value-returns-in_ok-put_bound-in-Some : goal.emit_value-returns-in_ok-put_bound-in-Some
emit_value-returns-in_ok-put_bound-in-Some t c =
    let is : subscript c.args.target.now.index ≡ Element (plain c.deref.result.now) = grind arith in
    last_call c.put.result c.put.ensures (λ h. element c.args.slots.now _
    (λ v. One (LoadAt v)) _ is refl c.spot_of-spot.ensures c.in_ok-emit_expression-in-Some.ensures c.in_ok-put_bound-in-Some.ensures
    (h refl))

pub emit_prior-returns-in-None : goal.emit_prior-returns-in-None
emit_prior-returns-in-None t c =
    last_call c.put.result c.put.ensures (λ h. scalar c.args.slots.now (λ v. One (Prior v)) _ _ _ (ap subscript c.in-None.is) c.spot_of-spot.ensures (h refl))

pub emit_prior-returns-in_ok-put_bound-in-Some : goal.emit_prior-returns-in_ok-put_bound-in-Some
emit_prior-returns-in_ok-put_bound-in-Some t c =
    let is : subscript c.args.target.now.index ≡ Element (plain c.deref.result.now) = grind arith in
    last_call c.put-in-Some.result c.put-in-Some.ensures (λ h. element c.args.slots.now _
    (λ v. One (PriorAt v)) _ is refl c.spot_of-spot.ensures c.in_ok-emit_expression-in-Some.ensures c.in_ok-put_bound-in-Some.ensures
    (h refl))

pub emit_links-returns : goal.emit_links-returns
emit_links-returns t c =
    let is : links_of (drop c.links.link-index c.args.links.now) ≡ NoLink = grind (arith, common_steps) in
    c.links.invariant _ (no_link c.args.slots.now _ is)

pub emit_links-links-preserved : goal.emit_links-links-preserved
emit_links-links-preserved t c =
    let is : links_of (drop c.links.link-index c.args.links.now)
    ≡ Linked c.link-item.result.op (plain c.link-item.result.right) (links_of (drop (c.links.link-index + 1) c.args.links.now)) =
    grind (arith, common_steps) in
    λ after h. c.links.invariant after (one_link c.args.slots.now is c.in_ok-emit_link.ensures h)

pub emit_link-returns-in_ok-emit_expression-in_default : goal.emit_link-returns-in_ok-emit_expression-in_default
emit_link-returns-in_ok-emit_expression-in_default t c =
    last_call c.put.result c.put.ensures (λ h. simple c.args.link.now.op c.in_default.not-Or c.in_default.not-And c.operator.ensures c.in_ok-emit_expression-in_default.ensures h)

pub emit_and-returns : goal.emit_and-returns
emit_and-returns t c =
    and_row c.in_ok-test.ensures c.in_ok-emit_expression.ensures (c.in_ok-put.ensures refl) c.in_ok-no.ensures c.patch.ensures

pub emit_or-returns : goal.emit_or-returns
emit_or-returns t c = λ p n.
    labelled c.in_ok-other.other (labelled c.in_ok-end.end
    (filled (JumpZero c.in_ok-other.other) refl c.in_ok-test.ensures c.patch-2.ensures
    (both (c.in_ok-put.ensures refl p n)
    (filled (Jump c.in_ok-end.end) refl c.in_ok-skip.ensures c.patch.ensures
    (both (at n _ c.in_ok-other.ensures)
    (both (c.in_ok-emit_expression.ensures p n) (both (c.in_ok-put-2.ensures refl p n) (at n _ c.in_ok-end.ensures))))))))

pub emit_limits-returns : goal.emit_limits-returns
emit_limits-returns t c =
    IfOk-weaker c.leave.result _ _
    (λ place left. (
      output c.emit_expression.new.draft,
      output c.emit_expression-2.new.draft,
      same_expression c.args.slots.now (ap plain (sym c.deref.ensures)) c.in_ok-emit_expression.ensures,
      same_expression c.args.slots.now (ap plain (sym c.deref-2.ensures)) c.in_ok-emit_expression-2.ensures,
      left,
    ))
    c.leave.ensures

pub emit_every-returns : goal.emit_every-returns
emit_every-returns t c =
    every_of c.args.slots.now c.args.quantified.now c.quantified_of-counter.result c.quantified_of-counter.ensures c.in_ok-range.ensures c.in_ok-again.ensures
    (same_expression c.args.slots.now (ap plain (sym c.deref.ensures)) c.in_ok-emit_expression.ensures)
    c.in_ok-test.ensures (c.in_ok-put.ensures refl) c.in_ok-yes.ensures (c.in_ok-put-2.ensures refl) c.in_ok-no.ensures
    c.patch.ensures c.patch-2.ensures

pub emit_some-returns : goal.emit_some-returns
emit_some-returns t c =
    some_of c.args.slots.now c.args.quantified.now c.quantified_of-counter.result c.quantified_of-counter.ensures c.in_ok-range.ensures c.in_ok-again.ensures
    (same_expression c.args.slots.now (ap plain (sym c.deref.ensures)) c.in_ok-emit_expression.ensures)
    c.in_ok-test.ensures (c.in_ok-put.ensures refl) c.in_ok-skip.ensures c.in_ok-next.ensures
    (c.in_ok-put-2.ensures refl) c.in_ok-no.ensures (c.in_ok-put-3.ensures refl) c.in_ok-end.ensures
    c.patch.ensures c.patch-2.ensures c.patch-3.ensures

pub emit_sum-returns : goal.emit_sum-returns
emit_sum-returns t c =
    sum_of c.args.slots.now c.args.quantified.now c.quantified_of-counter.result c.quantified_of-counter.ensures (c.in_ok-put.ensures refl) c.in_ok-range.ensures c.in_ok-again.ensures
    (same_expression c.args.slots.now (ap plain (sym c.deref.ensures)) c.in_ok-emit_expression.ensures)
    (c.in_ok-put-2.ensures refl) (c.in_ok-put-3.ensures refl) c.in_ok-end.ensures c.patch.ensures

pub emit_link-returns-in-And : goal.emit_link-returns-in-And
emit_link-returns-in-And t c =
    last_call c.emit_and.result c.emit_and.ensures (λ h. op_and c.in-And.is h)

pub emit_link-returns-in-Or : goal.emit_link-returns-in-Or
emit_link-returns-in-Or t c =
    last_call c.emit_or.result c.emit_or.ensures (λ h. op_or c.in-Or.is h)

pub emit_quantified-returns-in-Every : goal.emit_quantified-returns-in-Every
emit_quantified-returns-in-Every t c =
    last_call c.emit_every.result c.emit_every.ensures (λ h. of_every c.in-Every.is h)

pub emit_quantified-returns-in-Any : goal.emit_quantified-returns-in-Any
emit_quantified-returns-in-Any t c =
    last_call c.emit_some.result c.emit_some.ensures (λ h. of_some c.in-Any.is h)

pub emit_quantified-returns-in-Total : goal.emit_quantified-returns-in-Total
emit_quantified-returns-in-Total t c =
    last_call c.emit_sum.result c.emit_sum.ensures (λ h. of_sum c.in-Total.is h)
