use Rattle.rb_world.proofs.Relating.Instances.{outermost_goes}
use Rattle.rb_world.proofs.laws.outermost_is_rejected.Goals as goal

-- src/laws.rt:28:1
pub returns : goal.returns
returns c = outermost_goes
