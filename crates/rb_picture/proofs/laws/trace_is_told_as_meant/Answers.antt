use Rattle.rb_picture.proofs.AsMeant.{trace_told_as_meant}
use Rattle.rb_picture.proofs.laws.trace_is_told_as_meant.Goals as goal

pub returns : goal.returns
returns c = trace_told_as_meant
