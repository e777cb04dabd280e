use Rattle.std.proofs.Common.{refl}
use Rattle.rb_show.specs.Faulted.{reads_source}
use Rattle.rb_show.proofs.faults.FaultsCommand.begin.Goals as goal

pub returns : goal.returns
returns c = (refl, λ more. reads_source)
