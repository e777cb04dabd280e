use Rattle.rb_domino.proofs.theorem.Whole.{greatest_is_one}
use Rattle.rb_domino.proofs.laws.greatest_is_one.Goals as goal

pub returns : goal.returns
returns c = λ story line whole is_line consistent greatest. greatest_is_one story line whole is_line consistent greatest
