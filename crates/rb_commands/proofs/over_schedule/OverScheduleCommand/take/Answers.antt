use Rattle.std.proofs.Common.{[], ◌∷◌}
use Rattle.rb_commands.specs.Held.{HoldsScheduled}
use Rattle.rb_commands.proofs.Scheduled.{schedule_taken, source_not_taken, source_taken}
use Rattle.rb_commands.proofs.Taken.{next_is_short}
use Rattle.rb_commands.proofs.over_schedule.OverScheduleCommand.take.Goals as goal

pub prepare_source-requires : goal.prepare_source-requires
prepare_source-requires c =
    next_is_short (c.args.self.now.source.now ∷ c.args.self.now.schedule.now ∷ []) c.args.text.now (λ texts. HoldsScheduled texts c.args.held)
    c.requires

pub returns-in-Ok-clause-held : goal.returns-in-Ok-clause-held
returns-in-Ok-clause-held c =
    rw c.in-Nothing.is
    (source_taken c.args.self.now.product c.args.self.now.source.now c.args.self.now.schedule.now c.args.text.now c.in-Ok.prepared
    c.in-Ok.ensures.prepared)

pub returns-in-Err-clause-refused : goal.returns-in-Err-clause-refused
returns-in-Err-clause-refused c =
    rw c.in-Nothing.is (source_not_taken c.args.self.now.product c.args.text.now c.in-Err.stop c.in-Err.ensures.refused)

pub returns-in-Program-clause-held : goal.returns-in-Program-clause-held
returns-in-Program-clause-held c =
    rw c.in-Program.is
    (schedule_taken c.args.self.now.product c.args.self.now.source.now c.args.self.now.schedule.now c.args.text c.in-Program.prepared
    (next_is_short (c.args.self.now.source.now ∷ c.args.self.now.schedule.now ∷ []) c.args.text.now (λ texts. HoldsScheduled texts c.args.held)
    c.requires))
