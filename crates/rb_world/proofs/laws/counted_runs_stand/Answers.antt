use Rattle.rb_world.proofs.Relating.Instances.{counted_runs_stand as stand}
use Rattle.rb_world.proofs.laws.counted_runs_stand.Goals as goal

-- src/laws.rt:26:1
pub returns : goal.returns
returns c = stand
