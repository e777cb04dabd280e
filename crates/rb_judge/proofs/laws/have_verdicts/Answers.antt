use Rattle.rb_judge.proofs.Verdicts.{have_verdicts}
use Rattle.rb_judge.proofs.laws.have_verdicts.Goals as goal

pub returns : goal.returns
returns c = have_verdicts
