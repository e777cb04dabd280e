use Rattle.std.proofs.Common.{subst}
use Rattle.rb_show.specs.Drawing.{HoldsTrace}
use Rattle.rb_show.proofs.Held.{trace_ends}
use Rattle.rb_show.proofs.trace.TraceCommand.write.Goals as goal

pub draw-requires-clause-traced : goal.draw-requires-clause-traced
draw-requires-clause-traced g c = let held = subst (HoldsTrace c.requires.0) c.in-Both.is c.requires.2 in held.1

pub draw-requires-clause-short : goal.draw-requires-clause-short
draw-requires-clause-short g c = let held = subst (HoldsTrace c.requires.0) c.in-Both.is c.requires.2 in held.2

pub returns : goal.returns
returns g c =
    rw c.in-Both.is
    (λ texts many holds. trace_ends c.in-Both.source c.in-Both.schedule c.in-Both.traced (g.S.Sink.written c.args.out)
    (g.S.Sink.written c.draw.result.sink) (g.S.Sink.faults c.args.out) (g.S.Sink.faults c.draw.result.sink) c.draw.result.ended c.draw.ensures texts holds)
