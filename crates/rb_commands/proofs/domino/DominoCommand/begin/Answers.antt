use Rattle.std.proofs.Common.{refl}
use Rattle.rb_verdict.specs.Judging.{reads_history}
use Rattle.rb_commands.proofs.domino.DominoCommand.begin.Goals as goal

pub returns : goal.returns
returns c = (refl, λ more. reads_history)
