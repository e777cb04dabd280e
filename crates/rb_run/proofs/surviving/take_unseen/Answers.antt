-- One turn more, whose lines are forgotten.
use Rattle.std.proofs.Common.{◌≡◌, ◌+◌, length, ap, arith, ◌∙◌, sym}
use Rattle.rb_trace.specs.Report.{told_of}
use Rattle.rb_machine.specs.Machine.{Seen}
use Rattle.rb_run.proofs.Rested.{rested_ran}
use Rattle.rb_run.proofs.TurnsTaken.{is_after, led_on, none_waits, ran_all, released_each, turned_each}
use Rattle.rb_run.proofs.TurnsUnseen.{none_waiting, rest_same}
use Rattle.rb_run.proofs.TurnsWork.{work_left, work_on, work_through}
use Rattle.rb_run.proofs.surviving.take_unseen.Goals as goal

pub turns-preserved : goal.turns-preserved
turns-preserved g c =
    let parts = c.in-Some.ensures.0 in
    let m = c.turns.machine in
    let turning = c.turn.new.self in
    let now = c.drop_lines.new.machine in
    let told = told_of c.turn.new.report.kind c.turn.new.report.events.items turning.waiting in
    let turned = c.turn.ensures.turned in
    let waits = c.turns.invariant.waits in
    let none = none_waiting m turning now c.in-Some.p told turned waits c.drop_lines.ensures.machine in
    let rest = rest_same m turning now c.in-Some.p told turned waits c.drop_lines.ensures.machine in
    let same = is_after m turning now c.in-Some.p told turned waits none rest in
    record {
      waits = none_waits m turning now c.in-Some.p told turned waits none rest;
      few = omega (arith, ap (λ (x : Seen). x.taken) same, ap (λ (x : Seen). x.most) same, ap length parts, c.turns.invariant.few);
      end = omega (arith, ap (λ (x : Seen). x.taken) same, ap length parts, ap length c.in-Some.ensures.1, c.turns.invariant.end);
      led = led_on m turning now c.in-Some.p told turned waits none rest c.turns.schedule.left c.next.new.self.left parts ∙ c.turns.invariant.led;
      work = work_on m turning now c.in-Some.p told turned waits none rest c.turns.schedule.left c.next.new.self.left parts c.turns.steps c.turn.new.steps
          (c.args.steps.now + work_left c.args.machine.now c.args.schedule.left) c.turn.ensures.work c.turns.invariant.work;
    }

pub returns-clause-machine : goal.returns-clause-machine
returns-clause-machine g c = sym (ran_all c.turns.machine c.turns.schedule.left c.in_default.ensures.0) ∙ c.turns.invariant.led

pub drop_lines-requires : goal.drop_lines-requires
drop_lines-requires g c =
    ap (λ (m : Seen). length m.waiting) c.turn.ensures.turned.machine ∙ released_each c.turns.machine c.in-Some.p
    ∙ sym (ap (λ (m : Seen). length m.world.processes) c.turn.ensures.turned.machine ∙ turned_each c.turns.machine c.in-Some.p)

pub rest_until-requires-clause-later : goal.rest_until-requires-clause-later
rest_until-requires-clause-later g c =
    let parts = c.in-Some.ensures.0 in
    let m = c.turns.machine in
    let turning = c.turn.new.self in
    let now = c.drop_lines.new.machine in
    let told = told_of c.turn.new.report.kind c.turn.new.report.events.items turning.waiting in
    let turned = c.turn.ensures.turned in
    let waits = c.turns.invariant.waits in
    let none = none_waiting m turning now c.in-Some.p told turned waits c.drop_lines.ensures.machine in
    let rest = rest_same m turning now c.in-Some.p told turned waits c.drop_lines.ensures.machine in
    let same = is_after m turning now c.in-Some.p told turned waits none rest in
    omega (
      arith,
      ap (λ (x : Seen). x.taken) same,
      ap length parts,
      ap length c.in-Some.ensures.1,
      c.turns.invariant.end,
      c.turns-then-drop_lines.ensures.all,
    )

pub rest_until-requires-clause-most : goal.rest_until-requires-clause-most
rest_until-requires-clause-most g c =
    let parts = c.in-Some.ensures.0 in
    let m = c.turns.machine in
    let turning = c.turn.new.self in
    let now = c.drop_lines.new.machine in
    let told = told_of c.turn.new.report.kind c.turn.new.report.events.items turning.waiting in
    let turned = c.turn.ensures.turned in
    let waits = c.turns.invariant.waits in
    let none = none_waiting m turning now c.in-Some.p told turned waits c.drop_lines.ensures.machine in
    let rest = rest_same m turning now c.in-Some.p told turned waits c.drop_lines.ensures.machine in
    let same = is_after m turning now c.in-Some.p told turned waits none rest in
    omega (
      arith,
      ap (λ (x : Seen). x.most) same,
      ap length c.in-Some.ensures.1,
      c.turns.invariant.end,
      c.turns.invariant.few,
      c.turns-then-drop_lines.ensures.all,
    )

pub returns-then-drop_lines-clause-machine : goal.returns-then-drop_lines-clause-machine
returns-then-drop_lines-clause-machine g c =
    let parts = c.in-Some.ensures.0 in
    let m = c.turns.machine in
    let turning = c.turn.new.self in
    let now = c.drop_lines.new.machine in
    let told = told_of c.turn.new.report.kind c.turn.new.report.events.items turning.waiting in
    let turned = c.turn.ensures.turned in
    let waits = c.turns.invariant.waits in
    let none = none_waiting m turning now c.in-Some.p told turned waits c.drop_lines.ensures.machine in
    let rest = rest_same m turning now c.in-Some.p told turned waits c.drop_lines.ensures.machine in
    let same = is_after m turning now c.in-Some.p told turned waits none rest in
    let end : now.taken + length c.next.new.self.left ≡ c.turns-then-drop_lines.result =
    omega (
      arith,
      ap (λ (x : Seen). x.taken) same,
      ap length parts,
      ap length c.in-Some.ensures.1,
      c.turns.invariant.end,
      c.turns-then-drop_lines.ensures.all,
    ) in
    c.rest_until.ensures
    ∙ rested_ran now (c.drop_lines.ensures.over c.if-drop_lines.true) c.next.new.self.left c.turns-then-drop_lines.result end
    ∙ led_on m turning now c.in-Some.p told turned waits none rest c.turns.schedule.left c.next.new.self.left parts
    ∙ c.turns.invariant.led

pub returns-then-drop_lines-clause-work : goal.returns-then-drop_lines-clause-work
returns-then-drop_lines-clause-work g c =
    work_through c.turns.machine c.in-Some.p c.turns.schedule.left c.next.new.self.left c.in-Some.ensures.0 c.turns.steps c.turn.new.steps
    (c.args.steps.now + work_left c.args.machine.now c.args.schedule.left) c.turn.ensures.work c.turns.invariant.work
