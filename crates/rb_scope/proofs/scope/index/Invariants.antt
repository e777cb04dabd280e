use Rattle.std.proofs.Common.{◌≡◌, ℕ, ◌≤◌, List, drop, length}
use Rattle.std.specs.HashMap.{get_by}
use Rattle.rb_meaning.specs.Environment.{same_name}
use Rattle.rb_scope.specs.Memory.{place_from}
use Rattle.rb_scope.proofs.scope.index.Given as goal

-- the table tells the places of those from this place on
abbrev pub invariant-places : goal.invariant-places
invariant-places l =
    (l.place ≤ length l.declared) × ((x : List ℕ) → get_by (λ name. same_name x name.now) l.places ≡ place_from l.place x (drop l.place l.declared))

abbrev pub decreases-places : goal.decreases-places
decreases-places l = l.place
