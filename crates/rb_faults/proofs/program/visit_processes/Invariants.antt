use Rattle.std.proofs.Common.{◌≡◌, drop, map}
use Rattle.std.specs.List.{flat_map}
use Rattle.rb_syntax.specs.Plain.{process_declaration}
use Rattle.rb_scope.specs.Sites.{process_sites}
use Rattle.rb_faults.specs.Finding.{visited}
use Rattle.rb_faults.specs.Memory.{spot_of}
use Rattle.rb_faults.proofs.program.visit_processes.Given as goal

-- what is found, and then behind the others
abbrev pub invariant-loop-process : goal.invariant-loop-process
invariant-loop-process l =
    visited l.finder (flat_map (process_sites l.edition (spot_of l.spot)) (map process_declaration (drop l.process-index l.processes)))
    ≡ visited l.fn.finder (flat_map (process_sites l.edition (spot_of l.spot)) (map process_declaration l.processes))
