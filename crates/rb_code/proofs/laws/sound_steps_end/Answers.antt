use Rattle.rb_code.proofs.Executing.SoundSteps.{steps_end}
use Rattle.rb_code.proofs.laws.sound_steps_end.Goals as goal

pub returns : goal.returns
returns c = steps_end
