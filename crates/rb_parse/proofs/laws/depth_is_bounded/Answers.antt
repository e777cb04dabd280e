use Rattle.rb_grammar.proofs.Depth.Bounded.{depth_is_bounded}
use Rattle.rb_parse.proofs.laws.depth_is_bounded.Goals as goal

pub returns : goal.returns
returns c = depth_is_bounded
