use Rattle.rb_code.proofs.Executing.SoundSteps.{steps_are_safe}
use Rattle.rb_code.proofs.laws.sound_steps_are_safe.Goals as goal

pub returns : goal.returns
returns c = steps_are_safe
