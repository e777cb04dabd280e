use Rattle.rb_scope.proofs.Determined.{slots_are_determined}
use Rattle.rb_resolve.proofs.laws.slots_are_determined.Goals as goal

pub returns : goal.returns
returns c = slots_are_determined
