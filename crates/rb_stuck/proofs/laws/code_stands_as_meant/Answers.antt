use Rattle.rb_stuck.proofs.AsMeant.{code_stands}
use Rattle.rb_stuck.proofs.laws.code_stands_as_meant.Goals as goal

pub returns : goal.returns
returns c = code_stands
