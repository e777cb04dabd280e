use Rattle.rb_judge.proofs.OwnNumbers.{parsed_have_own_numbers}
use Rattle.rb_judge.proofs.laws.parsed_have_own_numbers.Goals as goal

pub returns : goal.returns
returns c = parsed_have_own_numbers
