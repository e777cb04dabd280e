use Rattle.rb_judge.proofs.Accepted.{of_accepted}
use Rattle.rb_judge.proofs.laws.accepted_keep_rejections_inside.Goals as goal
use Rattle.rb_meaning.proofs.Knowing.RejectionsStayInside.{rejections_stay_inside}
use Rattle.rb_meaning.specs.Laws.{KeepsRejectionsInside}

pub returns : goal.returns
returns c = of_accepted KeepsRejectionsInside rejections_stay_inside
