-- The survivors of all turns, which are those of the meaning.
use Rattle.std.proofs.Common.{ap, arith, true, length, refl}
use Rattle.rb_machine.specs.Machine.{Seen}
use Rattle.rb_run.proofs.Survived.{erased_over}
use Rattle.rb_run.proofs.TurnsUnseen.{none_waits_first}
use Rattle.rb_run.proofs.TurnsWork.{work_first}
use Rattle.rb_run.proofs.surviving.survive.Goals as goal

pub take_unseen-requires-clause-end : goal.take_unseen-requires-clause-end
take_unseen-requires-clause-end g c = omega (arith, ap (λ (m : Seen). m.taken) c.requires.fresh, ap length c.requires.whole)

pub take_unseen-requires-clause-waits : goal.take_unseen-requires-clause-waits
take_unseen-requires-clause-waits g c = none_waits_first c.args.machine.now true c.requires.fresh

pub returns-in-Ok-clause-erased : goal.returns-in-Ok-clause-erased
returns-in-Ok-clause-erased g c = erased_over c.args.machine.now.code c.args.machine.now.groups c.args.schedule.all

pub returns-in-Err-clause-erased : goal.returns-in-Err-clause-erased
returns-in-Err-clause-erased g c = erased_over c.args.machine.now.code c.args.machine.now.groups c.args.schedule.all

pub returns-in-Ok-clause-work : goal.returns-in-Ok-clause-work
returns-in-Ok-clause-work g c =
    omega (
      arith,
      c.take_unseen.ensures.work,
      work_first c.args.machine.now c.args.machine.now true c.requires.fresh refl c.args.schedule.left c.args.schedule.all c.requires.whole,
    )

pub returns-in-Err-clause-work : goal.returns-in-Err-clause-work
returns-in-Err-clause-work g c =
    omega (
      arith,
      c.take_unseen.ensures.work,
      work_first c.args.machine.now c.args.machine.now true c.requires.fresh refl c.args.schedule.left c.args.schedule.all c.requires.whole,
    )
