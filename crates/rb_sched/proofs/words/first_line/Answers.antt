use Rattle.std.proofs.lemmas.Grind.{common_steps}
use Rattle.std.proofs.Common.{◌≡◌, ℕ, ◌-◌, List, length, drop, ap, sym, ◌∙◌, arith, length-take, length-drop}
use Rattle.std.proofs.lemmas.List.{length-take-le}
use Rattle.rb_sched.proofs.words.first_line.Goals as goal

-- how much is left
length-left : (text rest : List ℕ) (n : ℕ) → rest ≡ drop n text → length rest ≡ length text - n
length-left text rest n left = ap length left ∙ length-drop n text

pub returns-then-byte-eq10-clause-shorter : goal.returns-then-byte-eq10-clause-shorter
returns-then-byte-eq10-clause-shorter c =
    let left = length-left c.args.text.now c.loop-rest.rest.now c.loop-rest.length c.loop-rest.invariant.left in
    simp (length-take, length-drop) (omega (arith, left))

pub overflow_add-length : goal.overflow_add-length
overflow_add-length c =
    let left = length-left c.args.text.now c.loop-rest.rest.now c.loop-rest.length c.loop-rest.invariant.left in
    omega (arith, left)

pub slice_bounds-result-end : goal.slice_bounds-result-end
slice_bounds-result-end c =
    let left = length-left c.args.text.now c.loop-rest.rest.now c.loop-rest.length c.loop-rest.invariant.left in
    sym (length-take-le c.loop-rest.length c.args.text.now (omega (arith, left)))

pub loop-rest-preserved : goal.loop-rest-preserved
loop-rest-preserved c = grind (arith, common_steps)

pub returns-then-byte-eq10-clause-lines : goal.returns-then-byte-eq10-clause-lines
returns-then-byte-eq10-clause-lines c = grind (arith, common_steps)

pub returns-clause-lines : goal.returns-clause-lines
returns-clause-lines c = grind (arith, common_steps)
