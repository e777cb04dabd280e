use Rattle.rb_back.proofs.Reached.{view_is_of_run}
use Rattle.rb_back.proofs.laws.view_is_of_run.Goals as goal

pub returns : goal.returns
returns c = view_is_of_run
