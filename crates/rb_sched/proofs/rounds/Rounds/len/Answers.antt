use Rattle.std.proofs.Common.{arith}
use Rattle.std.proofs.lemmas.Grind.{common_steps}
use Rattle.rb_sched.proofs.TurnsLeft.{length_turns_left}
use Rattle.rb_sched.proofs.rounds.Rounds.len.Goals as goal

pub returns-clause-few : goal.returns-clause-few
returns-clause-few c = grind (arith, common_steps, length_turns_left)

pub returns-clause-turns : goal.returns-clause-turns
returns-clause-turns c = grind (arith, common_steps, length_turns_left)
