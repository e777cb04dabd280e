use Rattle.std.proofs.Common.{take, Ok}
use Rattle.std.specs.List.{flat_map}
use Rattle.rb_outside.specs.declared.Failed.{Failed}
use Rattle.rb_outside.specs.Puts.{Puts}
use Rattle.rb_trace.specs.Naming.{naming}
use Rattle.rb_trace.specs.Report.{event_if}
use Rattle.rb_trace.proofs.report.write_events.Given as goal

-- the events so far were written
abbrev pub invariant-loop-event : goal.invariant-loop-event
invariant-loop-event g l =
    Puts {T = Unit {0}} {E = Failed} (flat_map (event_if (naming l.names) l.turn l.done) (take l.event-index l.events))
    (g.S.Sink.written l.initial.out) (g.S.Sink.written l.out) (g.S.Sink.faults l.initial.out) (g.S.Sink.faults l.out)
    (Ok tt)
