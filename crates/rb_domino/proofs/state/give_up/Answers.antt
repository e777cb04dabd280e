use Rattle.std.proofs.Common.{length, ap, arith}
use Rattle.std.proofs.lemmas.Grind.{common_steps}
use Rattle.rb_domino.proofs.Stacks.{popped}
use Rattle.rb_domino.proofs.state.give_up.Goals as goal

pub loop-state-preserved : goal.loop-state-preserved
loop-state-preserved g c = grind (arith, common_steps)

pub loop-state-smaller : goal.loop-state-smaller
loop-state-smaller g c =
    let same = ap length c.as_slice.ensures.value in
    popped c.as_slice.result.now c.in-Some.state c.pop.result _ _ c.in-Some.ensures
    (omega (arith, c.loop-state.states.ok.0, same)) c.pop.ensures.cases
