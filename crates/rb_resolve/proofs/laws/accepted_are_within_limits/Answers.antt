use Rattle.rb_scope.proofs.WithinLimits.{within_limits}
use Rattle.rb_resolve.proofs.laws.accepted_are_within_limits.Goals as goal

pub returns : goal.returns
returns c = within_limits
