use Rattle.rb_show.proofs.Held.{trace_begins}
use Rattle.rb_show.proofs.trace.TraceCommand.begin.Goals as goal

pub returns : goal.returns
returns c = trace_begins c.args.self.now.source.now c.args.self.now.schedule.now
