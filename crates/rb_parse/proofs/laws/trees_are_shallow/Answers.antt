use Rattle.rb_grammar.proofs.Depth.Bounded.{trees_are_shallow}
use Rattle.rb_parse.proofs.laws.trees_are_shallow.Goals as goal

pub returns : goal.returns
returns c = trees_are_shallow
