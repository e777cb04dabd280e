use Rattle.rb_lex.proofs.Lists.{has_list}
use Rattle.rb_lex.proofs.laws.has_token_list.Goals as goal

pub returns : goal.returns
returns c = has_list
