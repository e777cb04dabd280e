-- Of every accepted source the plain run of what survived a run is not stuck, and ends as the run ended.
use Rattle.rb_meaning.specs.Laws.{IsAlwaysErased}
use Rattle.rb_meaning.proofs.Trees.TreeErasure.{erasure}
use Rattle.rb_judge.proofs.Accepted.{of_accepted}
use Rattle.rb_verdict.specs.Laws.{SurvivorsEndAlike}

pub survivors_end_alike : SurvivorsEndAlike
survivors_end_alike source tree accepted = of_accepted IsAlwaysErased erasure source tree accepted
