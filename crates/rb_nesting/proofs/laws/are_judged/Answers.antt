use Rattle.rb_nest.proofs.FirstFaults.{are_judged}
use Rattle.rb_nesting.proofs.laws.are_judged.Goals as goal

pub returns : goal.returns
returns c = are_judged
