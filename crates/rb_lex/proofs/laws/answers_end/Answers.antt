use Rattle.rb_lex.proofs.Answered.{answers_end}
use Rattle.rb_lex.proofs.laws.answers_end.Goals as goal

pub returns : goal.returns
returns c = answers_end
