use Rattle.rb_verdict.proofs.Once.{are_judged_once}
use Rattle.rb_verdict.proofs.laws.are_judged_once.Goals as goal

pub returns : goal.returns
returns c = are_judged_once
