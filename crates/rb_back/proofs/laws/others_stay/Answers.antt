use Rattle.rb_back.proofs.OthersStay.{others_stay}
use Rattle.rb_back.proofs.laws.others_stay.Goals as goal

pub returns : goal.returns
returns c = others_stay
