use Rattle.rb_judge.proofs.Accepted.{of_accepted}
use Rattle.rb_judge.proofs.laws.accepted_pass_together.Goals as goal
use Rattle.rb_meaning.proofs.Knowing.MembersGoTogether.{passed_together}
use Rattle.rb_meaning.specs.Laws.{PassesTogether}

pub returns : goal.returns
returns c = of_accepted PassesTogether passed_together
