use Rattle.std.proofs.Common.{map, refl}
use Rattle.std.specs.List.{flat_map}
use Rattle.rb_syntax.specs.declared.program.Procedure.{Procedure}
use Rattle.rb_syntax.specs.Plain.{procedure_declaration}
use Rattle.rb_scope.specs.Sites.{procedure_sites}
use Rattle.rb_faults.specs.Memory.{spot_of}
use Rattle.rb_faults.proofs.Visited.{step}
use Rattle.rb_faults.proofs.program.visit_procedures.Goals as goal

pub loop-procedure-preserved : goal.loop-procedure-preserved
loop-procedure-preserved c =
    step (λ all. flat_map (procedure_sites (spot_of c.args.spot.now)) (map procedure_declaration all))
    (λ (one : Procedure). procedure_sites (spot_of c.args.spot.now) (procedure_declaration one)) (λ x xs. refl)
    c.args.procedures.now c.loop-procedure.procedure-index c.procedure-item.result c.procedure-item.is c.loop-procedure-test.true
    c.loop-procedure.finder c.visit_procedure.new.finder _ c.loop-procedure.invariant c.in_ok-visit_procedure.ensures
