use Rattle.rb_code.proofs.Executing.SoundSteps.{settling_is_safe, settling_stands, standing_has_settled}
use Rattle.rb_code.proofs.laws.sound_settling_stands.Goals as goal

pub returns-clause-safe : goal.returns-clause-safe
returns-clause-safe c = settling_is_safe

pub returns-clause-stands : goal.returns-clause-stands
returns-clause-stands c = settling_stands

pub returns-clause-settled : goal.returns-clause-settled
returns-clause-settled c = standing_has_settled
