use Rattle.rb_verdict.proofs.AllJudged.{are_judged}
use Rattle.rb_verdict.proofs.laws.are_judged.Goals as goal

pub returns : goal.returns
returns c = are_judged
