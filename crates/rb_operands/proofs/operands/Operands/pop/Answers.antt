use Rattle.std.proofs.Common.{arith}
use Rattle.std.proofs.lemmas.Grind.{common_steps}
use Rattle.rb_operands.proofs.operands.Operands.pop.Goals as goal

pub returns-clause-popped : goal.returns-clause-popped
returns-clause-popped c = grind (arith, common_steps)

pub returns-clause-few : goal.returns-clause-few
returns-clause-few c = grind (arith, common_steps)
