use Rattle.rb_grammar.proofs.Numbering.Numbered.{names_count_up}
use Rattle.rb_parse.proofs.laws.names_count_up.Goals as goal

pub returns : goal.returns
returns c = names_count_up
