use Rattle.rb_grammar.proofs.Numbering.Numbered.{recoveries_count_up}
use Rattle.rb_parse.proofs.laws.recoveries_count_up.Goals as goal

pub returns : goal.returns
returns c = recoveries_count_up
