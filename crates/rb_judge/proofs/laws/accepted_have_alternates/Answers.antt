use Rattle.rb_judge.proofs.Alternates.{accepted_have_alternates}
use Rattle.rb_judge.proofs.laws.accepted_have_alternates.Goals as goal

pub returns : goal.returns
returns c = accepted_have_alternates
