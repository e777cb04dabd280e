use Rattle.rb_judge.proofs.Accepted.{of_accepted}
use Rattle.rb_judge.proofs.laws.accepted_are_erased.Goals as goal
use Rattle.rb_meaning.proofs.Trees.TreeErasure.{erasure}
use Rattle.rb_meaning.specs.Laws.{IsAlwaysErased}

pub returns : goal.returns
returns c = of_accepted IsAlwaysErased erasure
