use Rattle.rb_conv.proofs.WhoIsInside.{places_are_exact}
use Rattle.rb_conv.proofs.laws.places_are_exact.Goals as goal

pub returns : goal.returns
returns c = places_are_exact
