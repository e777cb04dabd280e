-- From this level on they are left to write.
use Rattle.std.proofs.Common.{◌+◌, drop}
use Rattle.std.specs.Prelude.{slice_get}
use Rattle.rb_trace.proofs.Written.{Written}
use Rattle.rb_changes.specs.Changes.{level_change, level_lines}
use Rattle.rb_changes.specs.Numbered.{numbered}
use Rattle.rb_changes.proofs.levels.write_each.Given as goal

abbrev pub invariant-loop-k : goal.invariant-loop-k
invariant-loop-k g l =
    Written (level_lines l.turn l.process l.was l.now)
    (numbered (λ k level. level_change l.turn l.process (k + 1) (slice_get l.was k) level) l.k (drop l.k l.now))
    (g.S.Sink.written l.initial.out) (g.S.Sink.written l.out) (g.S.Sink.faults l.initial.out) (g.S.Sink.faults l.out)
