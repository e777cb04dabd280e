-- What holds of the tree of every accepted source: it has no fault of nesting, so it is nested as the laws of the meaning ask.
use Rattle.rb_meaning.specs.Laws.{OfEveryNested}
use Rattle.rb_meaning.specs.Nesting.{IsNested}
use Rattle.rb_nest.proofs.Accepted as nesting
use Rattle.rb_grammar.proofs.Depth.Bounded.{trees_are_shallow}
use Rattle.rb_syntax.specs.Tree.{Tree}
use Rattle.rb_scope.specs.Limits.{HasDistinctNames, IsWithinLimits}
use Rattle.rb_scope.proofs.DistinctNames.{have_distinct_names}
use Rattle.rb_scope.proofs.WithinLimits.{within_limits}
use Rattle.rb_judge.specs.Laws.{IsShallow, OfEveryAccepted}

pub accepted_are_nested : OfEveryAccepted IsNested
accepted_are_nested source tree a = nesting.accepted_are_nested tree a.nested

-- what every nested program keeps every accepted source keeps
pub of_accepted : (P : Tree → Type 0) → OfEveryNested P → OfEveryAccepted P
of_accepted P law source tree a = law tree (nesting.accepted_are_nested tree a.nested)

pub accepted_are_shallow : OfEveryAccepted IsShallow
accepted_are_shallow source tree a = trees_are_shallow source tree a.derived

pub accepted_are_within_limits : OfEveryAccepted IsWithinLimits
accepted_are_within_limits source tree a = within_limits tree a.scoped

pub accepted_have_distinct_names : OfEveryAccepted HasDistinctNames
accepted_have_distinct_names source tree a = have_distinct_names tree a.scoped
