use Rattle.rb_scope.proofs.Determined.{are_judged}
use Rattle.rb_resolve.proofs.laws.are_judged.Goals as goal

pub returns : goal.returns
returns c = are_judged
