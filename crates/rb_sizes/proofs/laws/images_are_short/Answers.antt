use Rattle.rb_sizes.proofs.Short.{images_are_short}
use Rattle.rb_sizes.proofs.laws.images_are_short.Goals as goal

pub returns : goal.returns
returns c = images_are_short
