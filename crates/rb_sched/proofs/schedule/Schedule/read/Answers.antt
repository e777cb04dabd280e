use Rattle.std.proofs.Common.{◌++◌}
use Rattle.rb_sched.specs.Walk.{turns_in}
use Rattle.rb_sched.proofs.Walk.{turns_known_in}
use Rattle.rb_sched.proofs.schedule.Schedule.read.Goals as goal

pub returns-clause-known : goal.returns-clause-known
returns-clause-known c =
    let read = c.in_ok-total.ensures in
    turns_known_in c.args.names.now c.args.text.now _ _ c.none.ensures read.1

pub returns-clause-turns : goal.returns-clause-turns
returns-clause-turns c =
    let read = c.in_ok-total.ensures in
    (read.0, read.1, λ i. record { all = turns_in (read.1 i); left = c.none.ensures i ++ turns_in (read.1 i) })
