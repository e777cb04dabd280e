use Rattle.rb_code.proofs.Tables.CodeTables.{code_has_table}
use Rattle.rb_code.proofs.laws.code_of_trees_is_sound.Goals as goal

pub returns : goal.returns
returns c = λ tree slots code. code_has_table code tree slots
