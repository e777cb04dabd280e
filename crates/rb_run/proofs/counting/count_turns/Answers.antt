-- One turn more, whose lines are counted and forgotten.
use Rattle.std.proofs.Common.{◌≡◌, List, ◌+◌, length, sum_by, ap, arith, refl, ◌∙◌, subst, sym}
use Rattle.rb_base.specs.declared.event.Event.{Event}
use Rattle.rb_trace.specs.Report.{told_of}
use Rattle.rb_machine.specs.Machine.{Seen}
use Rattle.rb_run.specs.Counting.{IsMore}
use Rattle.rb_run.proofs.Rested.{rested_counted, rested_ran}
use Rattle.rb_run.proofs.TurnsTaken.{is_after, led_on, none_waits, ran_all, released_each, turned_each}
use Rattle.rb_run.proofs.TurnsUnseen.{counted_all, counted_on, none_waiting, rest_same, room_after, room_first}
use Rattle.rb_run.proofs.TurnsWork.{work_left, work_on, work_through}
use Rattle.rb_run.proofs.counting.count_turns.Goals as goal

pub turns-init : goal.turns-init
turns-init g c = record {
  waits = c.requires.waits;
  few = c.requires.turns;
  end = c.requires.end;
  room = room_first (length c.args.schedule.left) c.args.tally.now (omega (arith, c.requires.turns, c.requires.few)) c.requires.room;
  led = refl;
  work = omega arith;
  counted = refl;
}

pub turns-preserved : goal.turns-preserved
turns-preserved g c =
    let parts = c.in-Some.ensures.0 in
    let m = c.turns.machine in
    let turning = c.turn.new.self in
    let now = c.count_turn.new.machine in
    let told = told_of c.turn.new.report.kind c.turn.new.report.events.items turning.waiting in
    let turned = c.turn.ensures.turned in
    let waits = c.turns.invariant.waits in
    let none = none_waiting m turning now c.in-Some.p told turned waits c.count_turn.ensures.machine in
    let rest = rest_same m turning now c.in-Some.p told turned waits c.count_turn.ensures.machine in
    let same = is_after m turning now c.in-Some.p told turned waits none rest in
    record {
      waits = none_waits m turning now c.in-Some.p told turned waits none rest;
      few = omega (arith, ap (λ (x : Seen). x.taken) same, ap (λ (x : Seen). x.most) same, ap length parts, c.turns.invariant.few);
      end = omega (arith, ap (λ (x : Seen). x.taken) same, ap length parts, ap length c.in-Some.ensures.1, c.turns.invariant.end);
      room = room_after c.turns.schedule.left c.next.new.self.left c.in-Some.p c.turns.tally c.count_turn.new.tally
          (sum_by length turning.waiting) c.deref.result.now parts c.turns.invariant.room c.count_turn.ensures.more c.count_turn.ensures.few
          (omega (arith, c.deref.ensures.1));
      led = led_on m turning now c.in-Some.p told turned waits none rest c.turns.schedule.left c.next.new.self.left parts ∙ c.turns.invariant.led;
      work = work_on m turning now c.in-Some.p told turned waits none rest c.turns.schedule.left c.next.new.self.left parts c.turns.steps c.turn.new.steps
          (c.args.steps.now + work_left c.args.machine.now c.args.schedule.left) c.turn.ensures.work c.turns.invariant.work;
      counted = counted_on m turning now c.in-Some.p told turned waits c.count_turn.ensures.machine c.turns.schedule.left
          c.next.new.self.left parts c.turns.tally c.count_turn.new.tally (sum_by length turning.waiting)
          (subst (λ (events : List Event). IsMore c.turns.tally (sum_by length turning.waiting) events c.count_turn.new.tally) c.deref.ensures.0
          c.count_turn.ensures.more) refl
          ∙ c.turns.invariant.counted;
    }

pub returns-clause-counts : goal.returns-clause-counts
returns-clause-counts g c =
    counted_all c.turns.machine c.turns.schedule.left c.in_default.ensures.0 c.turns.tally _ c.turns.invariant.counted

pub returns-clause-machine : goal.returns-clause-machine
returns-clause-machine g c = sym (ran_all c.turns.machine c.turns.schedule.left c.in_default.ensures.0) ∙ c.turns.invariant.led

pub count_turn-requires-clause-processes : goal.count_turn-requires-clause-processes
count_turn-requires-clause-processes g c =
    ap (λ (m : Seen). length m.waiting) c.turn.ensures.turned.machine ∙ released_each c.turns.machine c.in-Some.p
    ∙ sym (ap (λ (m : Seen). length m.world.processes) c.turn.ensures.turned.machine ∙ turned_each c.turns.machine c.in-Some.p)

-- Once every process rests, the turns that are left lead nowhere and count nothing.
pub rest_until-requires-clause-later : goal.rest_until-requires-clause-later
rest_until-requires-clause-later g c =
    let parts = c.in-Some.ensures.0 in
    let m = c.turns.machine in
    let turning = c.turn.new.self in
    let now = c.count_turn.new.machine in
    let told = told_of c.turn.new.report.kind c.turn.new.report.events.items turning.waiting in
    let turned = c.turn.ensures.turned in
    let waits = c.turns.invariant.waits in
    let none = none_waiting m turning now c.in-Some.p told turned waits c.count_turn.ensures.machine in
    let rest = rest_same m turning now c.in-Some.p told turned waits c.count_turn.ensures.machine in
    let same = is_after m turning now c.in-Some.p told turned waits none rest in
    omega (
      arith,
      ap (λ (x : Seen). x.taken) same,
      ap length parts,
      ap length c.in-Some.ensures.1,
      c.turns.invariant.end,
      c.turns-then-count_turn.ensures.all,
    )

pub rest_until-requires-clause-most : goal.rest_until-requires-clause-most
rest_until-requires-clause-most g c =
    let parts = c.in-Some.ensures.0 in
    let m = c.turns.machine in
    let turning = c.turn.new.self in
    let now = c.count_turn.new.machine in
    let told = told_of c.turn.new.report.kind c.turn.new.report.events.items turning.waiting in
    let turned = c.turn.ensures.turned in
    let waits = c.turns.invariant.waits in
    let none = none_waiting m turning now c.in-Some.p told turned waits c.count_turn.ensures.machine in
    let rest = rest_same m turning now c.in-Some.p told turned waits c.count_turn.ensures.machine in
    let same = is_after m turning now c.in-Some.p told turned waits none rest in
    omega (
      arith,
      ap (λ (x : Seen). x.most) same,
      ap length c.in-Some.ensures.1,
      c.turns.invariant.end,
      c.turns.invariant.few,
      c.turns-then-count_turn.ensures.all,
    )

pub returns-then-count_turn-clause-counts : goal.returns-then-count_turn-clause-counts
returns-then-count_turn-clause-counts g c =
    let parts = c.in-Some.ensures.0 in
    let m = c.turns.machine in
    let turning = c.turn.new.self in
    let now = c.count_turn.new.machine in
    let told = told_of c.turn.new.report.kind c.turn.new.report.events.items turning.waiting in
    let turned = c.turn.ensures.turned in
    let waits = c.turns.invariant.waits in
    let none = none_waiting m turning now c.in-Some.p told turned waits c.count_turn.ensures.machine in
    let rest = rest_same m turning now c.in-Some.p told turned waits c.count_turn.ensures.machine in
    rested_counted now (c.count_turn.ensures.over c.if-count_turn.true) c.next.new.self.left c.count_turn.new.tally _
    (counted_on m turning now c.in-Some.p told turned waits c.count_turn.ensures.machine c.turns.schedule.left
    c.next.new.self.left parts c.turns.tally c.count_turn.new.tally (sum_by length turning.waiting)
    (subst (λ (events : List Event). IsMore c.turns.tally (sum_by length turning.waiting) events c.count_turn.new.tally) c.deref.ensures.0
    c.count_turn.ensures.more) refl
    ∙ c.turns.invariant.counted)

pub returns-then-count_turn-clause-machine : goal.returns-then-count_turn-clause-machine
returns-then-count_turn-clause-machine g c =
    let parts = c.in-Some.ensures.0 in
    let m = c.turns.machine in
    let turning = c.turn.new.self in
    let now = c.count_turn.new.machine in
    let told = told_of c.turn.new.report.kind c.turn.new.report.events.items turning.waiting in
    let turned = c.turn.ensures.turned in
    let waits = c.turns.invariant.waits in
    let none = none_waiting m turning now c.in-Some.p told turned waits c.count_turn.ensures.machine in
    let rest = rest_same m turning now c.in-Some.p told turned waits c.count_turn.ensures.machine in
    let same = is_after m turning now c.in-Some.p told turned waits none rest in
    let end : now.taken + length c.next.new.self.left ≡ c.turns-then-count_turn.result =
    omega (
      arith,
      ap (λ (x : Seen). x.taken) same,
      ap length parts,
      ap length c.in-Some.ensures.1,
      c.turns.invariant.end,
      c.turns-then-count_turn.ensures.all,
    ) in
    c.rest_until.ensures
    ∙ rested_ran now (c.count_turn.ensures.over c.if-count_turn.true) c.next.new.self.left c.turns-then-count_turn.result end
    ∙ led_on m turning now c.in-Some.p told turned waits none rest c.turns.schedule.left c.next.new.self.left parts
    ∙ c.turns.invariant.led

pub returns-then-count_turn-clause-work : goal.returns-then-count_turn-clause-work
returns-then-count_turn-clause-work g c =
    work_through c.turns.machine c.in-Some.p c.turns.schedule.left c.next.new.self.left c.in-Some.ensures.0 c.turns.steps c.turn.new.steps
    (c.args.steps.now + work_left c.args.machine.now c.args.schedule.left) c.turn.ensures.work c.turns.invariant.work
