use Rattle.rb_grammar.proofs.Numbering.Numbered.{recoveries_in_order}
use Rattle.rb_parse.proofs.laws.recoveries_in_order.Goals as goal

pub returns : goal.returns
returns c = recoveries_in_order
