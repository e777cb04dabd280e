use Rattle.rb_code.proofs.Executing.RunsStand.{runs_end, runs_stand}
use Rattle.rb_code.proofs.laws.sound_runs_stand.Goals as goal

pub returns-clause-stand : goal.returns-clause-stand
returns-clause-stand c = runs_stand

pub returns-clause-end : goal.returns-clause-end
returns-clause-end c = runs_end
