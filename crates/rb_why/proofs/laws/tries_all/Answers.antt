use Rattle.std.proofs.Common.{refl}
use Rattle.rb_why.proofs.laws.tries_all.Goals as goal

pub returns : goal.returns
returns c = record { words = refl; marks = refl }
