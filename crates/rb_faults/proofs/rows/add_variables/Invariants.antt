use Rattle.std.proofs.Common.{◌≡◌, ◌++◌, length, map}
use Rattle.rb_syntax.specs.Plain.{declaration}
use Rattle.rb_scope.specs.Scopes.{variables_from}
use Rattle.rb_scope.specs.Memory.{all_held}
use Rattle.rb_faults.specs.Memory.{slot_in}
use Rattle.rb_faults.proofs.rows.add_variables.Given as goal

-- those so far, and the others
abbrev pub invariant-variables : goal.invariant-variables
invariant-variables l =
    all_held l.declared.items ++ variables_from (slot_in l.kind) l.at (map declaration l.rest)
    ≡ all_held l.fn.declared.items ++ variables_from (slot_in l.kind) l.fn.first (map declaration l.fn.variables)

abbrev pub decreases-variables : goal.decreases-variables
decreases-variables l = length l.rest
