use Rattle.std.proofs.Common.{◌≡◌, ◌++◌, length, map}
use Rattle.rb_syntax.specs.Plain.{identifier}
use Rattle.rb_scope.specs.Scopes.{parameters_from}
use Rattle.rb_scope.specs.Memory.{all_held}
use Rattle.rb_faults.proofs.rows.add_parameters.Given as goal

-- those so far, and the others
abbrev pub invariant-parameters : goal.invariant-parameters
invariant-parameters l =
    all_held l.declared.items ++ parameters_from l.at (map identifier l.rest)
    ≡ all_held l.fn.declared.items ++ parameters_from 0 (map identifier l.fn.parameters)

abbrev pub decreases-parameters : goal.decreases-parameters
decreases-parameters l = length l.rest
