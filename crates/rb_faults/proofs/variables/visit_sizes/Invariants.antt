use Rattle.std.proofs.Common.{◌≡◌, length, map}
use Rattle.std.specs.List.{flat_map}
use Rattle.rb_syntax.specs.Tree.{Declaration}
use Rattle.rb_syntax.specs.Plain.{declaration}
use Rattle.rb_scope.specs.Sites.{size_sites}
use Rattle.rb_faults.specs.Finding.{visited}
use Rattle.rb_faults.proofs.variables.visit_sizes.Given as goal

-- what is found, and then behind the other variables
abbrev pub invariant-variables : goal.invariant-variables
invariant-variables l =
    visited l.finder (flat_map (λ (one : Declaration). size_sites one.size) (map declaration l.rest))
    ≡ visited l.fn.finder (flat_map (λ (one : Declaration). size_sites one.size) (map declaration l.fn.variables))

abbrev pub decreases-variables : goal.decreases-variables
decreases-variables l = length l.rest
