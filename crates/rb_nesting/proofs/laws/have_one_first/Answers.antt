use Rattle.rb_nest.proofs.FirstFaults.{have_one_first}
use Rattle.rb_nesting.proofs.laws.have_one_first.Goals as goal

pub returns : goal.returns
returns c = have_one_first
