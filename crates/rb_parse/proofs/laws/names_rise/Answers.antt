use Rattle.rb_grammar.proofs.Numbering.Rising.{names_rise}
use Rattle.rb_parse.proofs.laws.names_rise.Goals as goal

pub returns : goal.returns
returns c = names_rise
