use Rattle.rb_grammar.proofs.Numbering.Numbered.{names_in_order}
use Rattle.rb_parse.proofs.laws.names_in_order.Goals as goal

pub returns : goal.returns
returns c = names_in_order
