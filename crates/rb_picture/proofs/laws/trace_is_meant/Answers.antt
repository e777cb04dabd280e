use Rattle.rb_picture.proofs.AsMeant.{trace_meant}
use Rattle.rb_picture.proofs.laws.trace_is_meant.Goals as goal

pub returns : goal.returns
returns c = trace_meant
