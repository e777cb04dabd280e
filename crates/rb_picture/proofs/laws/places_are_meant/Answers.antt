use Rattle.rb_picture.proofs.AsMeant.{places_meant}
use Rattle.rb_picture.proofs.laws.places_are_meant.Goals as goal

pub returns : goal.returns
returns c = places_meant
