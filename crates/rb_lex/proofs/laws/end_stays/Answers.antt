use Rattle.rb_lex.proofs.Answered.{end_stays}
use Rattle.rb_lex.proofs.laws.end_stays.Goals as goal

pub returns : goal.returns
returns c = end_stays
