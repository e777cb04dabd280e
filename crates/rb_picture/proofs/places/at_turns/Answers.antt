use Rattle.std.proofs.Common.{arith}
use Rattle.std.proofs.lemmas.Grind.{common_steps}
use Rattle.rb_picture.proofs.places.at_turns.Goals as goal

pub loop-instr-preserved : goal.loop-instr-preserved
loop-instr-preserved c = grind (arith, common_steps)

pub returns : goal.returns
returns c = grind (arith, common_steps)
