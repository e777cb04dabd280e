use Rattle.rb_grammar.proofs.Numbering.Rising.{recoveries_rise}
use Rattle.rb_parse.proofs.laws.recoveries_rise.Goals as goal

pub returns : goal.returns
returns c = recoveries_rise
