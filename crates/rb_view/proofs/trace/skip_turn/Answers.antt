-- The machine takes the turn, and how it stands then is kept.
use Rattle.std.proofs.Common.{ap, sym, subst}
use Rattle.rb_trace.specs.Report.{told_of}
use Rattle.rb_recovery.specs.Known.{IsSoundFor}
use Rattle.rb_machine.specs.Machine.{Seen}
use Rattle.rb_run.proofs.TurnsTaken.{is_after}
use Rattle.rb_run.proofs.TurnsUnseen.{none_waiting, rest_same}
use Rattle.rb_view.specs.Steady.{IsSized}
use Rattle.rb_view.proofs.Between.{of_run_next, steady}
use Rattle.rb_view.proofs.Shapes.{sized_now}
use Rattle.rb_view.proofs.trace.skip_turn.Goals as goal

pub keep-requires-clause-steady : goal.keep-requires-clause-steady
keep-requires-clause-steady g c =
    let m = c.args.machine.now in
    let turning = c.turn.new.self in
    let now = c.drop_released.new.self in
    let told = told_of c.turn.new.report.kind c.turn.new.report.events.items turning.waiting in
    let after = is_after m turning now c.args.p told c.turn.ensures.turned c.requires.waits
    (none_waiting m turning now c.args.p told c.turn.ensures.turned c.requires.waits c.drop_released.ensures.machine)
    (rest_same m turning now c.args.p told c.turn.ensures.turned c.requires.waits c.drop_released.ensures.machine) in
    steady now (subst (λ (x : Seen). IsSoundFor x.code x.groups) (sym after) c.requires.sound)
    (of_run_next m now c.args.p (ap (λ (x : Seen). x.code) after) (ap (λ (x : Seen). x.groups) after)
    (ap (λ (x : Seen). x.world) after) (ap (λ (x : Seen). x.taken) after) c.requires.of_run)

pub keep-requires-clause-sized : goal.keep-requires-clause-sized
keep-requires-clause-sized g c =
    let m = c.args.machine.now in
    let turning = c.turn.new.self in
    let now = c.drop_released.new.self in
    let told = told_of c.turn.new.report.kind c.turn.new.report.events.items turning.waiting in
    let after = is_after m turning now c.args.p told c.turn.ensures.turned c.requires.waits
    (none_waiting m turning now c.args.p told c.turn.ensures.turned c.requires.waits c.drop_released.ensures.machine)
    (rest_same m turning now c.args.p told c.turn.ensures.turned c.requires.waits c.drop_released.ensures.machine) in
    subst (λ (x : Seen). IsSized x.code x.groups c.args.was.now) (sym after)
    (subst (IsSized m.code m.groups) (sym c.requires.before) (sized_now m (steady m c.requires.sound c.requires.of_run)))

pub returns-clause-machine : goal.returns-clause-machine
returns-clause-machine g c =
    let m = c.args.machine.now in
    let turning = c.turn.new.self in
    let now = c.drop_released.new.self in
    let told = told_of c.turn.new.report.kind c.turn.new.report.events.items turning.waiting in
    is_after m turning now c.args.p told c.turn.ensures.turned c.requires.waits
    (none_waiting m turning now c.args.p told c.turn.ensures.turned c.requires.waits c.drop_released.ensures.machine)
    (rest_same m turning now c.args.p told c.turn.ensures.turned c.requires.waits c.drop_released.ensures.machine)
