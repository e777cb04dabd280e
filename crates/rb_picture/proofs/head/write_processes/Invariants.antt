-- From this one on they are left to write.
use Rattle.std.proofs.Common.{drop, map}
use Rattle.std.specs.List.{flat_map}
use Rattle.rb_trace.proofs.Written.{Written}
use Rattle.rb_trace.specs.Naming.{process_naming}
use Rattle.rb_picture.specs.Head.{process_head}
use Rattle.rb_picture.proofs.head.write_processes.Given as goal

abbrev pub invariant-loop-process : goal.invariant-loop-process
invariant-loop-process g l =
    let text = process_head in
    let all = map process_naming l.processes in
    Written (flat_map text all) (flat_map text (drop l.process-index all))
    (g.S.Sink.written l.initial.out) (g.S.Sink.written l.out) (g.S.Sink.faults l.initial.out) (g.S.Sink.faults l.out)
