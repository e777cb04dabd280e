use Rattle.std.proofs.Common.{◌≡◌, drop, map}
use Rattle.std.specs.List.{flat_map}
use Rattle.rb_syntax.specs.Plain.{procedure_declaration}
use Rattle.rb_scope.specs.Sites.{procedure_sites}
use Rattle.rb_faults.specs.Finding.{visited}
use Rattle.rb_faults.specs.Memory.{spot_of}
use Rattle.rb_faults.proofs.program.visit_procedures.Given as goal

-- what is found, and then behind the others
abbrev pub invariant-loop-procedure : goal.invariant-loop-procedure
invariant-loop-procedure l =
    visited l.finder (flat_map (procedure_sites (spot_of l.spot)) (map procedure_declaration (drop l.procedure-index l.procedures)))
    ≡ visited l.fn.finder (flat_map (procedure_sites (spot_of l.spot)) (map procedure_declaration l.procedures))
