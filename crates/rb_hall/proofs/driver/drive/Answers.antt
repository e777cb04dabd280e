use Rattle.rb_hall.proofs.Complete.{completed}
use Rattle.rb_hall.proofs.driver.drive.Goals as goal

pub returns-clause-complete : goal.returns-clause-complete
returns-clause-complete g c = completed _ _ _ _ _ _ c.carry.result.outcome c.carry.ensures.answers
