use Rattle.rb_scope.proofs.Determined.{have_one_first}
use Rattle.rb_resolve.proofs.laws.have_one_first.Goals as goal

pub returns : goal.returns
returns c = have_one_first
