use Rattle.rb_meaning.proofs.Knowing.AlternatesTriedTogether.{tried_together as together}
use Rattle.rb_meaning.proofs.together.tried_together.Goals as goal

pub returns : goal.returns
returns c = together
