use Rattle.std.proofs.Common.{◌≡◌, ◌++◌, length, map}
use Rattle.rb_syntax.specs.Plain.{process_declaration}
use Rattle.rb_scope.specs.Scopes.{processes_from}
use Rattle.rb_scope.specs.Memory.{all_held}
use Rattle.rb_faults.proofs.rows.add_processes.Given as goal

-- those so far, and the others
abbrev pub invariant-processes : goal.invariant-processes
invariant-processes l =
    all_held l.declared.items ++ processes_from l.number (map process_declaration l.rest)
    ≡ all_held l.fn.declared.items ++ processes_from 0 (map process_declaration l.fn.processes)

abbrev pub decreases-processes : goal.decreases-processes
decreases-processes l = length l.rest
