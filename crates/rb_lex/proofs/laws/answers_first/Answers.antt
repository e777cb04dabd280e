use Rattle.rb_lex.proofs.Answered.{answers_first}
use Rattle.rb_lex.proofs.laws.answers_first.Goals as goal

pub returns : goal.returns
returns c = answers_first
