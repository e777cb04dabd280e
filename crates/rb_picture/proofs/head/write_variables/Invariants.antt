-- From this one on they are left to write.
use Rattle.std.proofs.Common.{drop, map}
use Rattle.std.specs.List.{flat_map}
use Rattle.rb_trace.proofs.Written.{Written}
use Rattle.rb_trace.specs.Naming.{variable_naming}
use Rattle.rb_picture.specs.Head.{variable_head}
use Rattle.rb_picture.proofs.head.write_variables.Given as goal

abbrev pub invariant-loop-variable : goal.invariant-loop-variable
invariant-loop-variable g l =
    let text = variable_head l.process in
    let all = map variable_naming l.variables in
    Written (flat_map text all) (flat_map text (drop l.variable-index all))
    (g.S.Sink.written l.initial.out) (g.S.Sink.written l.out) (g.S.Sink.faults l.initial.out) (g.S.Sink.faults l.out)
