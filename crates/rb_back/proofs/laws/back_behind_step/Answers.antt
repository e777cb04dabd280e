use Rattle.rb_back.proofs.Reached.{back_behind_step}
use Rattle.rb_back.proofs.laws.back_behind_step.Goals as goal

pub returns : goal.returns
returns c = back_behind_step
