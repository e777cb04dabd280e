use Rattle.rb_lex.proofs.Answered.{fault_stays}
use Rattle.rb_lex.proofs.laws.fault_stays.Goals as goal

pub returns : goal.returns
returns c = fault_stays
