-- Where the last digit is below 9, the next number has it one higher.
use Rattle.std.proofs.Common.{◌≡◌, ◌+◌, ◌-◌, decimal, length, ap, ◌∙◌, arith}
use Rattle.std.proofs.Math.ListN.{set}
use Rattle.std.proofs.lemmas.List.{length-set}
use Rattle.rb_run.proofs.CountedUp.{counted_up, refilled}
use Rattle.rb_run.proofs.rising.Rising.count_up_to.Goals as goal

pub invariant_of-self : goal.invariant_of-self
invariant_of-self c =
    let lent = c.deref_mut.ensures.value in
    let n = c.self.inside.number in
    let next : n + 1 ≡ c.args.number = omega arith in
    refilled c.self.inside.digits.items (set c.deref_mut.result.now (length c.deref_mut.result.now - 1) (c.in-Some.digit.now + 1))
    (length-set c.deref_mut.result.now (length c.deref_mut.result.now - 1) (c.in-Some.digit.now + 1) ∙ ap length lent)
    ∙ counted_up n c.in-Some.digit.now c.deref_mut.result.now (omega arith) (lent ∙ c.self.invariant) (c.in-Some.ensures.item.3.1 0) (omega arith)
    ∙ ap decimal next
