-- Each turn is written, and the rest stays to be written.
use Rattle.std.proofs.Common.{◌≡◌, ◌+◌, length, refl, sym, ap, ◌∙◌, arith}
use Rattle.rb_trace.specs.Naming.{naming}
use Rattle.rb_trace.specs.Report.{told_of}
use Rattle.rb_machine.specs.Machine.{Seen}
use Rattle.rb_run.proofs.Completes.{failed_so, put_so}
use Rattle.rb_run.proofs.Rested.{rested_ran, rested_written}
use Rattle.rb_run.proofs.TurnsTaken.{all_written, is_after, led_on, none_waits, processes_now, released_each, stopped_in, turned_each, turns_left, written_on}
use Rattle.rb_run.proofs.TurnsWork.{work_left, work_on, work_through}
use Rattle.rb_run.proofs.running.take_turns.Goals as goal

pub write_turn-requires-clause-fit : goal.write_turn-requires-clause-fit
write_turn-requires-clause-fit g c =
    ap (λ (m : Seen). length m.waiting) c.turn.ensures.turned.machine ∙ released_each c.turns.machine c.in-Some.p ∙ sym c.turns.invariant.named

pub write_turn-requires-clause-processes : goal.write_turn-requires-clause-processes
write_turn-requires-clause-processes g c =
    ap (λ (m : Seen). length m.waiting) c.turn.ensures.turned.machine ∙ released_each c.turns.machine c.in-Some.p
    ∙ sym (ap (λ (m : Seen). length m.world.processes) c.turn.ensures.turned.machine ∙ turned_each c.turns.machine c.in-Some.p)

pub turns-preserved : goal.turns-preserved
turns-preserved g c =
    let parts = c.in-Some.ensures.0 in
    let m = c.turns.machine in
    let turning = c.turn.new.self in
    let now = c.write_turn.new.machine in
    let none = c.in_ok-over.ensures.none_waits in
    let rest = c.write_turn.ensures.rest in
    let told = told_of c.turn.new.report.kind c.turn.new.report.events.items turning.waiting in
    let turned = c.turn.ensures.turned in
    let waits = c.turns.invariant.waits in
    let same = is_after m turning now c.in-Some.p told turned waits none rest in
    record {
      named = c.turns.invariant.named ∙ sym (processes_now m turning now c.in-Some.p told turned waits none rest);
      waits = none_waits m turning now c.in-Some.p told turned waits none rest;
      few = omega (arith, ap (λ (x : Seen). x.taken) same, ap (λ (x : Seen). x.most) same, ap length parts, c.turns.invariant.few);
      end = omega (arith, ap (λ (x : Seen). x.taken) same, ap length parts, ap length c.in-Some.ensures.1, c.turns.invariant.end);
      led = led_on m turning now c.in-Some.p told turned waits none rest c.turns.schedule.left c.next.new.self.left parts ∙ c.turns.invariant.led;
      work = work_on m turning now c.in-Some.p told turned waits none rest c.turns.schedule.left c.next.new.self.left parts c.turns.steps c.turn.new.steps
          (c.args.steps.now + work_left c.args.machine.now c.args.schedule.left) c.turn.ensures.work c.turns.invariant.work;
      text = written_on m turning now c.in-Some.p told turned waits none rest c.turns.schedule.left c.next.new.self.left parts
          (naming c.args.names.now) turning.taken refl
          (turns_left (naming c.args.names.now) c.args.machine.now c.args.schedule.left)
          (g.S.Sink.written c.args.out.now) (g.S.Sink.written c.turns.out) (g.S.Sink.written c.write_turn.new.out)
          (g.S.Sink.faults c.args.out.now) (g.S.Sink.faults c.turns.out) (g.S.Sink.faults c.write_turn.new.out)
          c.turns.invariant.text (put_so c.in_ok-over.ensures.text);
    }

pub returns-in_err-over-clause-text : goal.returns-in_err-over-clause-text
returns-in_err-over-clause-text g c =
    let turning = c.turn.new.self in
    stopped_in c.turns.machine turning c.in-Some.p
    (told_of c.turn.new.report.kind c.turn.new.report.events.items turning.waiting) c.turn.ensures.turned
    c.turns.schedule.left c.next.new.self.left c.in-Some.ensures.0 (naming c.args.names.now) turning.taken refl
    (turns_left (naming c.args.names.now) c.args.machine.now c.args.schedule.left)
    (g.S.Sink.written c.args.out.now) (g.S.Sink.written c.turns.out) (g.S.Sink.written c.write_turn.new.out)
    (g.S.Sink.faults c.args.out.now) (g.S.Sink.faults c.turns.out) (g.S.Sink.faults c.write_turn.new.out)
    c.in_err-over.field-0.0 c.from_residual.result c.from_residual.ensures.0 c.turns.invariant.text (failed_so c.in_err-over.ensures.text)

pub returns-clause-text : goal.returns-clause-text
returns-clause-text g c =
    all_written (naming c.args.names.now) c.turns.machine c.turns.schedule.left c.in_default.ensures.0
    (turns_left (naming c.args.names.now) c.args.machine.now c.args.schedule.left)
    (g.S.Sink.written c.args.out.now) (g.S.Sink.written c.turns.out) (g.S.Sink.faults c.args.out.now) (g.S.Sink.faults c.turns.out)
    c.turns.invariant.text

pub returns-in_err-over-clause-work : goal.returns-in_err-over-clause-work
returns-in_err-over-clause-work g c =
    work_through c.turns.machine c.in-Some.p c.turns.schedule.left c.next.new.self.left c.in-Some.ensures.0 c.turns.steps c.turn.new.steps
    (c.args.steps.now + work_left c.args.machine.now c.args.schedule.left) c.turn.ensures.work c.turns.invariant.work

-- Once every process rests, the turns that are left lead nowhere and have no text.
pub rest_until-requires-clause-later : goal.rest_until-requires-clause-later
rest_until-requires-clause-later g c =
    let parts = c.in-Some.ensures.0 in
    let m = c.turns.machine in
    let turning = c.turn.new.self in
    let now = c.write_turn.new.machine in
    let none = c.in_ok-over.ensures.none_waits in
    let rest = c.write_turn.ensures.rest in
    let told = told_of c.turn.new.report.kind c.turn.new.report.events.items turning.waiting in
    let turned = c.turn.ensures.turned in
    let waits = c.turns.invariant.waits in
    let same = is_after m turning now c.in-Some.p told turned waits none rest in
    omega (
      arith,
      ap (λ (x : Seen). x.taken) same,
      ap length parts,
      ap length c.in-Some.ensures.1,
      c.turns.invariant.end,
      c.turns-then-over.ensures.all,
    )

pub rest_until-requires-clause-most : goal.rest_until-requires-clause-most
rest_until-requires-clause-most g c =
    let parts = c.in-Some.ensures.0 in
    let m = c.turns.machine in
    let turning = c.turn.new.self in
    let now = c.write_turn.new.machine in
    let none = c.in_ok-over.ensures.none_waits in
    let rest = c.write_turn.ensures.rest in
    let told = told_of c.turn.new.report.kind c.turn.new.report.events.items turning.waiting in
    let turned = c.turn.ensures.turned in
    let waits = c.turns.invariant.waits in
    let same = is_after m turning now c.in-Some.p told turned waits none rest in
    omega (
      arith,
      ap (λ (x : Seen). x.most) same,
      ap length c.in-Some.ensures.1,
      c.turns.invariant.end,
      c.turns.invariant.few,
      c.turns-then-over.ensures.all,
    )

pub returns-then-over-clause-text : goal.returns-then-over-clause-text
returns-then-over-clause-text g c =
    let parts = c.in-Some.ensures.0 in
    let m = c.turns.machine in
    let turning = c.turn.new.self in
    let now = c.write_turn.new.machine in
    let none = c.in_ok-over.ensures.none_waits in
    let rest = c.write_turn.ensures.rest in
    let told = told_of c.turn.new.report.kind c.turn.new.report.events.items turning.waiting in
    let turned = c.turn.ensures.turned in
    let waits = c.turns.invariant.waits in
    rested_written now (c.in_ok-over.ensures.over c.if-over.true) (naming c.args.names.now) c.next.new.self.left
    (turns_left (naming c.args.names.now) c.args.machine.now c.args.schedule.left)
    (g.S.Sink.written c.args.out.now) (g.S.Sink.written c.write_turn.new.out) (g.S.Sink.faults c.args.out.now)
    (g.S.Sink.faults c.write_turn.new.out)
    (written_on m turning now c.in-Some.p told turned waits none rest c.turns.schedule.left c.next.new.self.left parts
    (naming c.args.names.now) turning.taken refl
    (turns_left (naming c.args.names.now) c.args.machine.now c.args.schedule.left)
    (g.S.Sink.written c.args.out.now) (g.S.Sink.written c.turns.out) (g.S.Sink.written c.write_turn.new.out)
    (g.S.Sink.faults c.args.out.now) (g.S.Sink.faults c.turns.out) (g.S.Sink.faults c.write_turn.new.out)
    c.turns.invariant.text (put_so c.in_ok-over.ensures.text))

pub returns-then-over-clause-ran : goal.returns-then-over-clause-ran
returns-then-over-clause-ran g c =
    let parts = c.in-Some.ensures.0 in
    let m = c.turns.machine in
    let turning = c.turn.new.self in
    let now = c.write_turn.new.machine in
    let none = c.in_ok-over.ensures.none_waits in
    let rest = c.write_turn.ensures.rest in
    let told = told_of c.turn.new.report.kind c.turn.new.report.events.items turning.waiting in
    let turned = c.turn.ensures.turned in
    let waits = c.turns.invariant.waits in
    let same = is_after m turning now c.in-Some.p told turned waits none rest in
    let end : now.taken + length c.next.new.self.left ≡ c.turns-then-over.result =
    omega (
      arith,
      ap (λ (x : Seen). x.taken) same,
      ap length parts,
      ap length c.in-Some.ensures.1,
      c.turns.invariant.end,
      c.turns-then-over.ensures.all,
    ) in
    c.rest_until.ensures
    ∙ rested_ran now (c.in_ok-over.ensures.over c.if-over.true) c.next.new.self.left c.turns-then-over.result end
    ∙ led_on m turning now c.in-Some.p told turned waits none rest c.turns.schedule.left c.next.new.self.left parts
    ∙ c.turns.invariant.led

pub returns-then-over-clause-work : goal.returns-then-over-clause-work
returns-then-over-clause-work g c =
    work_through c.turns.machine c.in-Some.p c.turns.schedule.left c.next.new.self.left c.in-Some.ensures.0 c.turns.steps c.turn.new.steps
    (c.args.steps.now + work_left c.args.machine.now c.args.schedule.left) c.turn.ensures.work c.turns.invariant.work
