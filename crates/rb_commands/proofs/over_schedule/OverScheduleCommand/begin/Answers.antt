use Rattle.rb_commands.proofs.Scheduled.{nothing_taken}
use Rattle.rb_commands.proofs.over_schedule.OverScheduleCommand.begin.Goals as goal

pub returns : goal.returns
returns c = nothing_taken c.args.self.now.product c.args.self.now.source.now c.args.self.now.schedule.now
