use Rattle.std.proofs.Common.{[], ◌∷◌}
use Rattle.rb_commands.proofs.Taken.{next_is_short}
use Rattle.rb_show.specs.Drawing.{HoldsTrace}
use Rattle.rb_show.proofs.Held.{schedule_taken, source_traced, source_untraced}
use Rattle.rb_show.proofs.trace.TraceCommand.take.Goals as goal

pub trace_source-requires : goal.trace_source-requires
trace_source-requires c =
    next_is_short (c.args.self.now.source.now ∷ c.args.self.now.schedule.now ∷ []) c.args.text.now (λ texts. HoldsTrace texts c.args.held) c.requires

pub returns-in-Ok-clause-held : goal.returns-in-Ok-clause-held
returns-in-Ok-clause-held c =
    rw c.in-Nothing.is
    (source_traced c.args.self.now.source.now c.args.self.now.schedule.now c.args.text c.in-Ok.traced c.in-Ok.ensures.traced)

pub returns-in-Err-clause-refused : goal.returns-in-Err-clause-refused
returns-in-Err-clause-refused c = rw c.in-Nothing.is (source_untraced c.args.text.now c.in-Err.stop c.in-Err.ensures.refused)

pub returns-in-Program-clause-held : goal.returns-in-Program-clause-held
returns-in-Program-clause-held c =
    rw c.in-Program.is
    (schedule_taken c.args.self.now.source.now c.args.self.now.schedule.now c.in-Program.source c.args.text c.in-Program.traced
    (next_is_short (c.args.self.now.source.now ∷ c.args.self.now.schedule.now ∷ []) c.args.text.now (λ texts. HoldsTrace texts c.args.held) c.requires))
