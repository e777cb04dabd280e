use Rattle.rb_image.proofs.Found.{images_are_of_one as of_one}
use Rattle.rb_image.proofs.laws.images_are_of_one.Goals as goal

pub returns : goal.returns
returns c = of_one
