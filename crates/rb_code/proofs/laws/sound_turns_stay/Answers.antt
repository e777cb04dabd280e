use Rattle.rb_code.proofs.Executing.Staying.{settling_stays, steps_stay}
use Rattle.rb_code.proofs.laws.sound_turns_stay.Goals as goal

pub returns-clause-steps : goal.returns-clause-steps
returns-clause-steps c = steps_stay

pub returns-clause-settling : goal.returns-clause-settling
returns-clause-settling c = settling_stays
