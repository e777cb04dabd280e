use Rattle.std.proofs.Common.{refl}
use Rattle.rb_verdict.specs.Judging.{at_first}
use Rattle.rb_show.proofs.explore.ExploreCommand.begin.Goals as goal

pub returns : goal.returns
returns c = (refl, λ more. at_first)
