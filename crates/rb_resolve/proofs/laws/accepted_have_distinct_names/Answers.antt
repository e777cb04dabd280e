use Rattle.rb_scope.proofs.DistinctNames.{have_distinct_names}
use Rattle.rb_resolve.proofs.laws.accepted_have_distinct_names.Goals as goal

pub returns : goal.returns
returns c = have_distinct_names
