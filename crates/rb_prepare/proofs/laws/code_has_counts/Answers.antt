use Rattle.rb_prepare.proofs.AcceptedSources.{accepted_code_has_counts}
use Rattle.rb_prepare.proofs.laws.code_has_counts.Goals as goal

pub returns : goal.returns
returns c = accepted_code_has_counts
