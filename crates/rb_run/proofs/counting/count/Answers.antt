-- The opening and all turns are counted from nothing.
use Rattle.std.proofs.Common.{ap, arith, false, length, refl}
use Rattle.rb_machine.specs.Machine.{Seen}
use Rattle.rb_run.proofs.TurnsUnseen.{none_waits_first}
use Rattle.rb_run.proofs.TurnsWork.{work_first}
use Rattle.rb_run.proofs.counting.count.Goals as goal

pub count_turns-requires-clause-end : goal.count_turns-requires-clause-end
count_turns-requires-clause-end g c = omega (arith, ap (λ (m : Seen). m.taken) c.requires.fresh, ap length c.requires.whole)

pub count_turns-requires-clause-waits : goal.count_turns-requires-clause-waits
count_turns-requires-clause-waits g c = none_waits_first c.args.machine.now false c.requires.fresh

pub returns-clause-work : goal.returns-clause-work
returns-clause-work g c =
    omega (
      arith,
      c.count_turns.ensures.work,
      work_first c.args.machine.now c.args.machine.now false c.requires.fresh refl c.args.schedule.left c.args.schedule.all c.requires.whole,
    )
