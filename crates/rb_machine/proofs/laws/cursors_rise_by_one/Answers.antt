use Rattle.rb_machine.proofs.Knowing.StepsRise.{settling_keeps, steps_raise}
use Rattle.rb_machine.proofs.laws.cursors_rise_by_one.Goals as goal

pub returns-clause-steps : goal.returns-clause-steps
returns-clause-steps c = steps_raise

pub returns-clause-settling : goal.returns-clause-settling
returns-clause-settling c = settling_keeps
