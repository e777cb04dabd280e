use Rattle.std.proofs.Common.{◌≡◌, length}
use Rattle.rb_lists.specs.Naming.{all_differ}
use Rattle.rb_lists.proofs.distinct.all_differ.Given as goal

abbrev pub invariant-names : goal.invariant-names
invariant-names l = all_differ l.fn.names ≡ all_differ l.rest

abbrev pub decreases-names : goal.decreases-names
decreases-names l = length l.rest
