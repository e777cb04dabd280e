use Rattle.std.proofs.Common.{arith}
use Rattle.std.proofs.lemmas.Grind.{common_steps}
use Rattle.rb_conv.proofs.conversation.Conversation.enter.Goals as goal

pub returns-clause-entered : goal.returns-clause-entered
returns-clause-entered c = grind (arith, common_steps)
