use Rattle.rb_verdict.proofs.SurvivorsReplay.{survivors_replay}
use Rattle.rb_verdict.proofs.laws.survivors_replay.Goals as goal

pub returns : goal.returns
returns c = survivors_replay
