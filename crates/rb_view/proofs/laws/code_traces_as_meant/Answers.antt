use Rattle.rb_view.proofs.AsMeant.{traces_as_meant}
use Rattle.rb_view.proofs.laws.code_traces_as_meant.Goals as goal

pub returns : goal.returns
returns c = traces_as_meant
