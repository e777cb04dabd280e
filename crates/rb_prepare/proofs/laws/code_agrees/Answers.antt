use Rattle.rb_prepare.proofs.AcceptedSources.{accepted_code_agrees}
use Rattle.rb_prepare.proofs.laws.code_agrees.Goals as goal

pub returns : goal.returns
returns c = accepted_code_agrees
