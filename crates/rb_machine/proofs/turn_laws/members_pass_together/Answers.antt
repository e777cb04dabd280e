use Rattle.rb_machine.proofs.Together.MembersTogether.{passed_together}
use Rattle.rb_machine.proofs.turn_laws.members_pass_together.Goals as goal

pub returns : goal.returns
returns c = passed_together
