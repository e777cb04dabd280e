use Rattle.rb_judge.proofs.Accepted.{accepted_have_distinct_names}
use Rattle.rb_judge.proofs.laws.accepted_have_distinct_names.Goals as goal

pub returns : goal.returns
returns c = accepted_have_distinct_names
