use Rattle.rb_picture.proofs.AsMeant.{trace_meant_where}
use Rattle.rb_picture.proofs.laws.trace_is_meant_where.Goals as goal

pub returns : goal.returns
returns c = trace_meant_where
