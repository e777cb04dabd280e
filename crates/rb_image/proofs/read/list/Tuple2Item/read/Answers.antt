use Rattle.rb_image.proofs.Chains.{both_as}
use Rattle.rb_image.proofs.read.list.Tuple2Item.read.Goals as goal

pub returns : goal.returns
returns g c = both_as g.A.Item.reading g.B.Item.reading c.args.bytes.now _ _ c.in_ok-first.ensures c.in_ok-second.ensures
