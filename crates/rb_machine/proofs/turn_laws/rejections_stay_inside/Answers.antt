use Rattle.rb_machine.proofs.Together.UndoneTurns.{rejections_stay_inside}
use Rattle.rb_machine.proofs.turn_laws.rejections_stay_inside.Goals as goal

pub returns : goal.returns
returns c = rejections_stay_inside
