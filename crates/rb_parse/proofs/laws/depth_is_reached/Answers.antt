use Rattle.rb_grammar.proofs.Depth.Deepest.{depth_is_reached}
use Rattle.rb_parse.proofs.laws.depth_is_reached.Goals as goal

pub returns : goal.returns
returns c = depth_is_reached
