use Rattle.rb_gen.proofs.ExistsProcesses.{code_exists}
use Rattle.rb_gen.proofs.laws.has_code.Goals as goal

pub returns : goal.returns
returns c = code_exists
