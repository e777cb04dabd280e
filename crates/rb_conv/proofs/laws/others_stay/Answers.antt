use Rattle.rb_conv.proofs.WhoIsInside.{others_stay}
use Rattle.rb_conv.proofs.laws.others_stay.Goals as goal

pub returns : goal.returns
returns c = others_stay
