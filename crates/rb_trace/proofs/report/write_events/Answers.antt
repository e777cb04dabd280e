use Rattle.rb_outside.proofs.Puts.{puts_nothing}
use Rattle.rb_trace.specs.Naming.{naming}
use Rattle.rb_trace.specs.Report.{event_if}
use Rattle.rb_trace.proofs.Spaced.{puts_next, puts_part, puts_whole}
use Rattle.rb_trace.proofs.report.write_events.Goals as goal

pub loop-event-init : goal.loop-event-init
loop-event-init g c = puts_nothing _ _ _

pub loop-event-preserved : goal.loop-event-preserved
loop-event-preserved g c =
    puts_next (event_if
    (naming c.args.names.now) c.args.turn c.args.done) c.args.events.now c.loop-event.event-index _ c.loop-event-test.true _ _ _ _ _ _ _ _ c.loop-event.invariant c.in_ok-write_event_if.ensures

pub returns-in_err-write_event_if : goal.returns-in_err-write_event_if
returns-in_err-write_event_if g c =
    let next = puts_next
    (event_if (naming c.args.names.now) c.args.turn c.args.done) c.args.events.now c.loop-event.event-index _ c.loop-event-test.true _ _ _ _ _ _ _ _ c.loop-event.invariant c.in_err-write_event_if.ensures in
    puts_part (event_if
    (naming c.args.names.now) c.args.turn c.args.done) c.args.events.now _ _ _ _ _ _ c.from_residual.result c.from_residual.ensures.0 next

pub returns : goal.returns
returns g c =
    puts_whole (event_if
    (naming c.args.names.now) c.args.turn c.args.done) c.args.events.now _ _ _ _ _ _ c.loop-event-test.false c.loop-event.invariant
