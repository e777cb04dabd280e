use Rattle.rb_meaning.proofs.Knowing.RejectionsStayInside.{rejections_stay_inside as stay}
use Rattle.rb_meaning.proofs.together.rejections_stay_inside.Goals as goal

pub returns : goal.returns
returns c = stay
