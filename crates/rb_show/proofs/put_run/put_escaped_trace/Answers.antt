use Rattle.std.proofs.Common.{ap}
use Rattle.rb_show.proofs.Putting.{put_from}
use Rattle.rb_show.proofs.put_run.put_escaped_trace.Goals as goal

pub returns : goal.returns
returns g c =
    c.finish.ensures (g.S.Sink.written c.args.out) (g.S.Sink.faults c.args.out) _
    (put_from _ _ _ _ _ _ _ c.write_trace-written.result c.before-escaped.ensures.fresh (ap (λ s. g.S.Sink.faults s) c.before-escaped.ensures.sink)
    (rw c.as_slice.ensures.value at c.write_trace-written.ensures))
