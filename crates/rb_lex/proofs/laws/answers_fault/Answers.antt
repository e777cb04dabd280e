use Rattle.rb_lex.proofs.Answered.{answers_fault}
use Rattle.rb_lex.proofs.laws.answers_fault.Goals as goal

pub returns : goal.returns
returns c = answers_fault
