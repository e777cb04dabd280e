use Rattle.rb_domino.proofs.Orderly.{orderly}
use Rattle.rb_domino.proofs.laws.histories_are_orderly.Goals as goal

pub returns : goal.returns
returns c = λ story h. orderly h
