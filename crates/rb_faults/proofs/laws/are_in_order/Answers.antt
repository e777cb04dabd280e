use Rattle.rb_scope.specs.Rules.{faults_of}
use Rattle.rb_faults.proofs.Ordering.{are_in_order}
use Rattle.rb_faults.proofs.laws.are_in_order.Goals as goal

pub returns : goal.returns
returns c = λ tree. are_in_order (faults_of tree)
