-- The variables from this one on are left to write.
use Rattle.std.proofs.Common.{drop, map}
use Rattle.std.specs.List.{flat_map}
use Rattle.rb_trace.proofs.Written.{Written}
use Rattle.rb_trace.specs.Naming.{variable_naming}
use Rattle.rb_changes.specs.Changes.{variable_change}
use Rattle.rb_changes.proofs.variables.write_variables.Given as goal

abbrev pub invariant-loop-variable : goal.invariant-loop-variable
invariant-loop-variable g l =
    let text = variable_change l.turn l.process l.was l.now in
    let all = map variable_naming l.variables in
    Written (flat_map text all) (flat_map text (drop l.variable-index all))
    (g.S.Sink.written l.initial.out) (g.S.Sink.written l.out) (g.S.Sink.faults l.initial.out) (g.S.Sink.faults l.out)
