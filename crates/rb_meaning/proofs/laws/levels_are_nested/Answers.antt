use Rattle.rb_meaning.proofs.laws.levels_are_nested.Goals as goal
use Rattle.rb_meaning.proofs.Trees.TreeLaws.{levels_are_nested}

pub returns : goal.returns
returns c = levels_are_nested
