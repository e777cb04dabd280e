use Rattle.rb_search.proofs.Weights.{first_is_lighter, total_falls, weaker_is_lighter}
use Rattle.rb_search.proofs.laws.weights_fall.Goals as goal

pub returns-clause-weaker : goal.returns-clause-weaker
returns-clause-weaker c = weaker_is_lighter

pub returns-clause-first : goal.returns-clause-first
returns-clause-first c = first_is_lighter

pub returns-clause-total : goal.returns-clause-total
returns-clause-total c = total_falls
