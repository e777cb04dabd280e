use Rattle.rb_lex.proofs.Standing.{ending_stands}
use Rattle.rb_lex.proofs.laws.ending_stands.Goals as goal

pub returns : goal.returns
returns c = ending_stands
