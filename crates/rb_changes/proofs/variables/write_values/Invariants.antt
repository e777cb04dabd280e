-- From this element on they are left to write.
use Rattle.std.proofs.Common.{drop}
use Rattle.std.specs.Prelude.{slice_get}
use Rattle.rb_trace.proofs.Written.{Written}
use Rattle.rb_trace.specs.Naming.{variable_naming}
use Rattle.rb_changes.specs.Changes.{value_change, value_lines}
use Rattle.rb_changes.specs.Numbered.{numbered}
use Rattle.rb_changes.proofs.variables.write_values.Given as goal

abbrev pub invariant-loop-k : goal.invariant-loop-k
invariant-loop-k g l =
    let variable = variable_naming l.variable in
    Written (value_lines l.turn l.process variable l.was l.now)
    (numbered (λ k value. value_change l.turn l.process variable k (slice_get l.was k) value) l.k (drop l.k l.now))
    (g.S.Sink.written l.initial.out) (g.S.Sink.written l.out) (g.S.Sink.faults l.initial.out) (g.S.Sink.faults l.out)
