use Rattle.std.proofs.Common.{arith, refl}
use Rattle.rb_commands.proofs.trial.TrialCommand.begin.Goals as goal

pub returns : goal.returns
returns c = (refl, λ more. absurd (omega (arith, more)))
