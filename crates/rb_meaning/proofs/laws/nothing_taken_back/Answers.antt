use Rattle.rb_meaning.proofs.laws.nothing_taken_back.Goals as goal
use Rattle.rb_meaning.proofs.Trees.TreeErasure.{nothing_taken_back}

pub returns : goal.returns
returns c = nothing_taken_back
