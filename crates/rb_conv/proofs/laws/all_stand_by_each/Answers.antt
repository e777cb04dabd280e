use Rattle.rb_conv.proofs.AllStand.{all_stand_by_each}
use Rattle.rb_conv.proofs.laws.all_stand_by_each.Goals as goal

pub returns : goal.returns
returns c = all_stand_by_each
