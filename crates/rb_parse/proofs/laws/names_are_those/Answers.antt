use Rattle.rb_grammar.proofs.Numbering.Numbered.{names_are_those}
use Rattle.rb_parse.proofs.laws.names_are_those.Goals as goal

pub returns : goal.returns
returns c = names_are_those
