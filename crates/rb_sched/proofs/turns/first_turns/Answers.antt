use Rattle.std.proofs.lemmas.Grind.{common_steps}
use Rattle.std.proofs.Common.{subst, arith}
use Rattle.rb_base.specs.Naming.{process_names}
use Rattle.rb_sched.specs.Walk.{GoesOn}
use Rattle.rb_sched.proofs.Walk.{goes_on_with}
use Rattle.rb_sched.proofs.turns.first_turns.Goals as goal

pub returns-then-not-is_empty-clause-goes_on : goal.returns-then-not-is_empty-clause-goes_on
returns-then-not-is_empty-clause-goes_on c =
    goes_on_with _ _ _ _ _ _ c.loop-rest.invariant c.first_line.ensures.lines c.in-Ok.ensures

-- a line without turns leaves all for the rest
pub loop-rest-preserved : goal.loop-rest-preserved
loop-rest-preserved c =
    let none = c.is_empty-in-loop-rest.ensures.0 c.if-not-is_empty.false in
    let with_line = goes_on_with _ _ _ _ _ _ c.loop-rest.invariant c.first_line.ensures.lines c.in-Ok.ensures in
    subst (λ turns. GoesOn (process_names c.args.names.now) c.args.text.now turns c.first_line.result.1.now) none with_line

pub returns-clause-ended : goal.returns-clause-ended
returns-clause-ended c = grind (arith, common_steps)
