use Rattle.std.proofs.Common.{refl}
use Rattle.rb_image.specs.Pieces.{number}
use Rattle.rb_image.proofs.rows.bytes_of_images.Goals as goal

pub returns : goal.returns
unfolding number
returns c = record { smallest = refl; length = refl }
