use Rattle.rb_judge.proofs.Accepted.{of_accepted}
use Rattle.rb_judge.proofs.laws.accepted_have_nested_levels.Goals as goal
use Rattle.rb_meaning.proofs.Trees.TreeLaws.{levels_are_nested}
use Rattle.rb_meaning.specs.Laws.{HasNestedLevels}

pub returns : goal.returns
returns c = of_accepted HasNestedLevels levels_are_nested
