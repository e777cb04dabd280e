use Rattle.rb_judge.proofs.Spelling.{accepted_are_spelled}
use Rattle.rb_judge.proofs.laws.accepted_are_spelled.Goals as goal

pub returns : goal.returns
returns c = accepted_are_spelled
