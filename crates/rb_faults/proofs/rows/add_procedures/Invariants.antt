use Rattle.std.proofs.Common.{◌≡◌, ◌++◌, length, map}
use Rattle.rb_syntax.specs.Plain.{procedure_declaration}
use Rattle.rb_scope.specs.Scopes.{procedures_from}
use Rattle.rb_scope.specs.Memory.{all_held}
use Rattle.rb_faults.proofs.rows.add_procedures.Given as goal

-- those so far, and the others
abbrev pub invariant-procedures : goal.invariant-procedures
invariant-procedures l =
    all_held l.declared.items ++ procedures_from l.number (map procedure_declaration l.rest)
    ≡ all_held l.fn.declared.items ++ procedures_from 0 (map procedure_declaration l.fn.procedures)

abbrev pub decreases-procedures : goal.decreases-procedures
decreases-procedures l = length l.rest
