use Rattle.rb_judge.proofs.Verdicts.{have_one_verdict}
use Rattle.rb_judge.proofs.laws.have_one_verdict.Goals as goal

pub returns : goal.returns
returns c = have_one_verdict
