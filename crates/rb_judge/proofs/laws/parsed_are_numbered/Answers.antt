use Rattle.rb_judge.proofs.BlocksInOrder.{parsed_are_numbered}
use Rattle.rb_judge.proofs.laws.parsed_are_numbered.Goals as goal

pub returns : goal.returns
returns c = parsed_are_numbered
