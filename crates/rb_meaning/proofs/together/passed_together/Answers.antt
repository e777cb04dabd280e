use Rattle.rb_meaning.proofs.Knowing.MembersGoTogether.{passed_together as together}
use Rattle.rb_meaning.proofs.together.passed_together.Goals as goal

pub returns : goal.returns
returns c = together
