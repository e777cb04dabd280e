-- From this process on they are left to write.
use Rattle.std.proofs.Common.{ℕ, List, drop, map}
use Rattle.std.specs.Prelude.{slice_get}
use Rattle.rb_trace.proofs.Written.{Written}
use Rattle.rb_trace.specs.Naming.{process_naming}
use Rattle.rb_world.specs.Text.{ProcessNaming}
use Rattle.rb_changes.specs.Changes.{change_of, process_changes}
use Rattle.rb_changes.specs.Numbered.{numbered}
use Rattle.rb_view.specs.Noting.{processes_noted}
use Rattle.rb_view.specs.Steady.{shown_now}
use Rattle.rb_view.proofs.writing.write_processes.Given as goal

abbrev pub invariant-loop-p : goal.invariant-loop-p
invariant-loop-p g l =
    let text : ℕ → ProcessNaming → List ℕ =
    λ p process. change_of (process_changes l.turn process) (slice_get (processes_noted l.told) p) (slice_get (shown_now l.machine).processes p) in
    let all = map process_naming l.processes in
    Written (numbered text 0 all) (numbered text l.p (drop l.p all))
    (g.S.Sink.written l.initial.out) (g.S.Sink.written l.out) (g.S.Sink.faults l.initial.out) (g.S.Sink.faults l.out)
