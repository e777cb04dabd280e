use Rattle.rb_lex.proofs.Standing.{tokens_rise}
use Rattle.rb_lex.proofs.laws.tokens_rise.Goals as goal

pub returns : goal.returns
returns c = tokens_rise
