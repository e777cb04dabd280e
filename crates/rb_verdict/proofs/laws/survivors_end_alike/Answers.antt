use Rattle.rb_verdict.proofs.ErasedAccepted.{survivors_end_alike}
use Rattle.rb_verdict.proofs.laws.survivors_end_alike.Goals as goal

pub returns : goal.returns
returns c = survivors_end_alike
