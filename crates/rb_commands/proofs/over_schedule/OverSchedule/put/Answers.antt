use Rattle.std.proofs.Common.{subst}
use Rattle.rb_commands.specs.Held.{HoldsScheduled}
use Rattle.rb_commands.proofs.Scheduled.{both_end}
use Rattle.rb_commands.proofs.over_schedule.OverSchedule.put.Goals as goal

pub over_text-requires-clause-prepared : goal.over_text-requires-clause-prepared
over_text-requires-clause-prepared g c =
    let held = subst (HoldsScheduled c.requires.0) c.in-Both.is c.requires.2 in (held.0, held.2)

pub over_text-requires-clause-short : goal.over_text-requires-clause-short
over_text-requires-clause-short g c =
    let held = subst (HoldsScheduled c.requires.0) c.in-Both.is c.requires.2 in held.3

pub returns : goal.returns
returns g c =
    rw c.in-Both.is
    (λ texts many holds. both_end c.args.self.now.product c.in-Both.prepared c.in-Both.text (g.S.Sink.written c.args.out.now)
    (g.S.Sink.written c.over_text.new.out) (g.S.Sink.faults c.args.out.now) (g.S.Sink.faults c.over_text.new.out) c.over_text.result
    c.over_text.ensures texts holds)
