use Rattle.std.proofs.Common.{refl}
use Rattle.rb_image.specs.Pieces.{number}
use Rattle.rb_image.proofs.rows.bytes_of_pieces.Goals as goal

pub returns : goal.returns
unfolding number
returns c = record {
  numbers = (refl, refl, refl, refl, refl, refl);
  pieces = (refl, refl, refl);
  instrs = (refl, refl, refl);
  group = refl;
}
