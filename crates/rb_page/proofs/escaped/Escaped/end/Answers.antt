use Rattle.std.proofs.Common.{Err, refl, ap}
use Rattle.rb_page.proofs.Finishing.{settled_end, stopped_end}
use Rattle.rb_page.proofs.escaped.Escaped.end.Goals as goal

pub returns-in-Ok : goal.returns-in-Ok
returns-in-Ok g c start faults text put =
    let old = c.args.self.now in
    let new = c.settle.new.self in
    settled_end c.settle.result c.args.written _ (g.S.Sink.written old.start.value) (g.S.Sink.written new.start.value) start (g.S.Sink.written old.sink)
    (g.S.Sink.written new.sink) old.rest.items new.rest.items text faults (g.S.Sink.faults old.sink) (g.S.Sink.faults new.sink) c.in-Ok.is old.passes
    new.passes (ap g.S.Sink.written c.settle.ensures.start) c.settle.ensures.same c.settle.ensures.settled c.settle.ensures.quiet c.settle.ensures.failed put

pub returns-in-Err : goal.returns-in-Err
returns-in-Err g c start faults text put =
    let old = c.args.self.now in
    stopped_end (Err c.in-Err.failed) c.args.written c.in-Err.failed c.in-Err.failed (g.S.Sink.written old.start.value) start (g.S.Sink.written old.sink)
    old.rest.items text faults (g.S.Sink.faults old.sink) c.in-Err.is refl old.passes put
