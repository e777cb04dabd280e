use Rattle.rb_judge.proofs.Accepted.{of_accepted}
use Rattle.rb_judge.proofs.laws.accepted_take_nothing_back.Goals as goal
use Rattle.rb_meaning.proofs.Trees.TreeErasure.{nothing_taken_back}
use Rattle.rb_meaning.specs.Laws.{TakesNothingBack}

pub returns : goal.returns
returns c = of_accepted TakesNothingBack nothing_taken_back
