use Rattle.rb_scope.specs.Rules.{faults_of}
use Rattle.rb_faults.proofs.Ordering.{first_in_order}
use Rattle.rb_faults.proofs.laws.first_is_the_refusal.Goals as goal

pub returns : goal.returns
returns c = λ tree fault others e. first_in_order (faults_of tree) others fault e
