use Rattle.rb_grammar.proofs.Accepting.Complete.{one_tree}
use Rattle.rb_parse.proofs.laws.has_one_tree.Goals as goal

pub returns : goal.returns
returns c = one_tree
