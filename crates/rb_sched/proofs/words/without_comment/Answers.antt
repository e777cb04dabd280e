use Rattle.std.proofs.lemmas.Grind.{common_steps}
use Rattle.std.proofs.Common.{◌≡◌, ℕ, ◌-◌, List, length, drop, ap, sym, ◌∙◌, arith, length-drop}
use Rattle.std.proofs.lemmas.List.{length-take-le}
use Rattle.rb_sched.proofs.words.without_comment.Goals as goal

-- how much is left
length-left : (line rest : List ℕ) (n : ℕ) → rest ≡ drop n line → length rest ≡ length line - n
length-left line rest n left = ap length left ∙ length-drop n line

pub overflow_add-length : goal.overflow_add-length
overflow_add-length c =
    let left = length-left c.args.line.now c.loop-rest.rest.now c.loop-rest.length c.loop-rest.invariant.left in
    omega (arith, left)

pub slice_bounds-result-end : goal.slice_bounds-result-end
slice_bounds-result-end c =
    let left = length-left c.args.line.now c.loop-rest.rest.now c.loop-rest.length c.loop-rest.invariant.left in
    sym (length-take-le c.loop-rest.length c.args.line.now (omega (arith, left)))

pub loop-rest-preserved : goal.loop-rest-preserved
loop-rest-preserved c = grind (arith, common_steps)

pub returns : goal.returns
returns c = grind (arith, common_steps)
