use Rattle.std.proofs.Common.{map, refl}
use Rattle.std.specs.List.{flat_map}
use Rattle.rb_syntax.specs.declared.program.Process.{Process}
use Rattle.rb_syntax.specs.Plain.{process_declaration}
use Rattle.rb_scope.specs.Sites.{process_sites}
use Rattle.rb_faults.specs.Memory.{spot_of}
use Rattle.rb_faults.proofs.Visited.{step}
use Rattle.rb_faults.proofs.program.visit_processes.Goals as goal

pub loop-process-preserved : goal.loop-process-preserved
loop-process-preserved c =
    step (λ all. flat_map (process_sites c.args.edition (spot_of c.args.spot.now)) (map process_declaration all))
    (λ (one : Process). process_sites c.args.edition (spot_of c.args.spot.now) (process_declaration one)) (λ x xs. refl)
    c.args.processes.now c.loop-process.process-index c.process-item.result c.process-item.is c.loop-process-test.true
    c.loop-process.finder c.visit_process.new.finder _ c.loop-process.invariant c.in_ok-visit_process.ensures
