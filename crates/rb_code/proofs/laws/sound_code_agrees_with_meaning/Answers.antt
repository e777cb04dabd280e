use Rattle.rb_code.proofs.WholeRuns.CodeAgrees.{agrees_by_table}
use Rattle.rb_code.proofs.laws.sound_code_agrees_with_meaning.Goals as goal

pub returns : goal.returns
returns c = agrees_by_table
