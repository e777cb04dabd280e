use Rattle.rb_code.proofs.Executing.SoundSteps.{steps_stand}
use Rattle.rb_code.proofs.laws.sound_steps_stand.Goals as goal

pub returns : goal.returns
returns c = steps_stand
