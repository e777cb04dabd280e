use Rattle.rb_parse.proofs.Verdicts.{has_one_verdict}
use Rattle.rb_parse.proofs.laws.has_one_verdict.Goals as goal

pub returns : goal.returns
returns c = has_one_verdict
