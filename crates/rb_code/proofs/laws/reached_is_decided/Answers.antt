use Rattle.rb_code.proofs.Reaching.ReachedDecided.{reached_is_decided}
use Rattle.rb_code.proofs.laws.reached_is_decided.Goals as goal

pub returns : goal.returns
returns c = reached_is_decided
