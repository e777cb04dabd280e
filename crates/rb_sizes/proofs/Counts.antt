-- The numbers of alternates that nesting counts are those of a tree's conversations.
use Rattle.std.proofs.Common.{ℕ, Option, unwrap_or, sym, ap}
use Rattle.rb_base.specs.declared.names.Nested.{Nested}
use Rattle.rb_syntax.specs.Tree.{Tree}
use Rattle.rb_nest.specs.Groups.{alternates}
use Rattle.rb_nest.specs.Nest.{IsNest}
use Rattle.rb_prepare.proofs.Joining.CountedAlternates.{as_many_counts}
use Rattle.rb_sizes.specs.Laws.{CountsAlternates}

pub nested_counts : (tree : Tree) (nested : Nested) → IsNest tree nested → CountsAlternates tree (alternates nested)
nested_counts tree nested nest = record {
  as_many = as_many_counts tree nested nest;
  each = λ d n e. sym (ap (λ (o : Option ℕ). unwrap_or o 0) (nest.counts d n e));
}
