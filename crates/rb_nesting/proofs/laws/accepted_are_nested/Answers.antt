use Rattle.rb_nest.proofs.Accepted.{accepted_are_nested}
use Rattle.rb_nesting.proofs.laws.accepted_are_nested.Goals as goal

pub returns : goal.returns
returns c = accepted_are_nested
