use Rattle.rb_back.proofs.Storing.TurnStores.{stores_stay}
use Rattle.rb_back.proofs.laws.stores_stay.Goals as goal

pub returns : goal.returns
returns c = stores_stay
