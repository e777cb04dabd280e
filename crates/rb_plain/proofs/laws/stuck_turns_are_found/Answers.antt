use Rattle.rb_plain.proofs.StuckTurns.{stuck_turns_are_found}
use Rattle.rb_plain.proofs.laws.stuck_turns_are_found.Goals as goal

pub returns : goal.returns
returns c = stuck_turns_are_found
