use Rattle.std.proofs.Common.{◌≡◌, [], drop, take}
use Rattle.rb_scope.specs.Sites.{scope_sites}
use Rattle.rb_faults.specs.Finding.{visited}
use Rattle.rb_faults.proofs.variables.visit_scope.Given as goal

-- what is found, and then behind the other declarations
abbrev pub invariant-loop-place : goal.invariant-loop-place
invariant-loop-place l =
    visited l.finder (scope_sites (take l.place l.scope) (drop l.place l.scope)) ≡ visited l.fn.finder (scope_sites [] l.scope)
