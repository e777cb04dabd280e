use Rattle.std.proofs.lemmas.Grind.{common_steps}
use Rattle.std.proofs.Common.{arith}
use Rattle.rb_sched.proofs.Walk.{read_more}
use Rattle.rb_sched.proofs.turns.count_turns.Goals as goal

pub loop-rest-preserved : goal.loop-rest-preserved
loop-rest-preserved c =
    let read = c.in-Ok.ensures in
    record {
      lines = omega (arith, c.first_line.ensures.shorter);
      read = read_more _ _ _ _ _ _ _ _ _ c.loop-rest.invariant.read c.first_line.ensures.lines read.1 read.2 read.3;
    }

pub returns : goal.returns
returns c = grind (arith, common_steps)
