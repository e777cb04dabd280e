use Rattle.rb_parse.proofs.Verdicts.{has_verdict}
use Rattle.rb_parse.proofs.laws.has_verdict.Goals as goal

pub returns : goal.returns
returns c = has_verdict
