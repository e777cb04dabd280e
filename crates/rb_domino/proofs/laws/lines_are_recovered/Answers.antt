use Rattle.rb_domino.proofs.theorem.Whole.{recovered}
use Rattle.rb_domino.proofs.laws.lines_are_recovered.Goals as goal

pub returns : goal.returns
returns c = λ story whole. recovered story whole
