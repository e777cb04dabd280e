use Rattle.rb_grammar.proofs.Stopping.GoesOn.{ends_too_early}
use Rattle.rb_parse.proofs.laws.ends_too_early.Goals as goal

pub returns : goal.returns
returns c = ends_too_early
