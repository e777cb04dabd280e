use Rattle.rb_grammar.proofs.Stopping.GoesOn.{first_bad_token}
use Rattle.rb_parse.proofs.laws.first_bad_token.Goals as goal

pub returns : goal.returns
returns c = first_bad_token
