-- From this conversation on they are left to write.
use Rattle.std.proofs.Common.{ℕ, List, drop}
use Rattle.std.specs.Prelude.{slice_get}
use Rattle.rb_trace.proofs.Written.{Written}
use Rattle.rb_changes.specs.Changes.{change_of, talk_changes}
use Rattle.rb_changes.specs.Numbered.{numbered}
use Rattle.rb_view.specs.Noting.{talks_noted}
use Rattle.rb_view.proofs.shown.write_talks.Given as goal

abbrev pub invariant-loop-d : goal.invariant-loop-d
invariant-loop-d g l =
    let text : ℕ → List ℕ → List ℕ =
    λ d name. change_of (talk_changes l.turn name) (slice_get (talks_noted l.told) d) (slice_get (talks_noted l.now) d) in
    Written (numbered text 0 l.names) (numbered text l.d (drop l.d l.names))
    (g.S.Sink.written l.initial.out) (g.S.Sink.written l.out) (g.S.Sink.faults l.initial.out) (g.S.Sink.faults l.out)
