use Rattle.rb_lex.proofs.Lists.{one_list}
use Rattle.rb_lex.proofs.laws.has_one_token_list.Goals as goal

pub returns : goal.returns
returns c = one_list
