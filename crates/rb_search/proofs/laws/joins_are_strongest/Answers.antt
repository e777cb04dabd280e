use Rattle.rb_search.proofs.Joins.{joined_is_strongest, joined_is_weaker}
use Rattle.rb_search.proofs.laws.joins_are_strongest.Goals as goal

pub returns-clause-weaker : goal.returns-clause-weaker
returns-clause-weaker c = joined_is_weaker

pub returns-clause-strongest : goal.returns-clause-strongest
returns-clause-strongest c = joined_is_strongest
