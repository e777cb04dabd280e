use Rattle.rb_scope.specs.Rules.{faults_of}
use Rattle.rb_faults.proofs.Ordering.{none_in_order}
use Rattle.rb_faults.proofs.laws.none_is_told.Goals as goal

pub returns : goal.returns
returns c = λ tree. none_in_order (faults_of tree)
