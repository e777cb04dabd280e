use Rattle.rb_lex.proofs.Standing.{tokens_stand}
use Rattle.rb_lex.proofs.laws.tokens_stand.Goals as goal

pub returns : goal.returns
returns c = tokens_stand
