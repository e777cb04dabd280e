-- From this channel on they are left to write.
use Rattle.std.proofs.Common.{ℕ, List, drop}
use Rattle.std.specs.Prelude.{slice_get}
use Rattle.rb_trace.proofs.Written.{Written}
use Rattle.rb_changes.specs.Changes.{change_of, channel_changes}
use Rattle.rb_changes.specs.Numbered.{numbered}
use Rattle.rb_view.specs.Steady.{shown_now}
use Rattle.rb_view.proofs.writing.write_channels.Given as goal

abbrev pub invariant-loop-c : goal.invariant-loop-c
invariant-loop-c g l =
    let text : ℕ → List ℕ → List ℕ =
    λ c name. change_of (channel_changes l.turn name) (slice_get l.told c) (slice_get (shown_now l.machine).channels c) in
    Written (numbered text 0 l.names) (numbered text l.c (drop l.c l.names))
    (g.S.Sink.written l.initial.out) (g.S.Sink.written l.out) (g.S.Sink.faults l.initial.out) (g.S.Sink.faults l.out)
