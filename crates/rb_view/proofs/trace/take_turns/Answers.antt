-- One turn more is written.
use Rattle.std.proofs.Common.{◌+◌, [], length, refl, sym, ap, ◌∙◌, subst, arith}
use Rattle.rb_outside.proofs.Puts.{puts_nothing}
use Rattle.rb_trace.specs.Naming.{naming}
use Rattle.rb_code.specs.Instructions.Plain.{Code}
use Rattle.rb_recovery.specs.Known.{IsSoundFor}
use Rattle.rb_machine.specs.Machine.{Seen, turned}
use Rattle.rb_run.specs.Running.{NamesFit}
use Rattle.rb_run.proofs.Completes.{remains_less, remains_none, remains_same, remains_stopped}
use Rattle.rb_run.proofs.TurnsTaken.{ran_all}
use Rattle.rb_view.proofs.Between.{of_run_next}
use Rattle.rb_view.proofs.Turning.{code_after, few_after, groups_after, led_after, none_after, shown_after, turn_shown, turns_shown}
use Rattle.rb_view.proofs.trace.take_turns.Goals as goal

pub turns-init : goal.turns-init
turns-init g c = record {
  code = refl;
  groups = refl;
  of_run = c.requires.of_run;
  waits = c.requires.waits;
  kept = c.requires.before;
  few = c.requires.turns;
  led = refl;
  text = record { done = []; parts = refl; wrote = puts_nothing _ _ tt };
}

pub take_turn-requires-clause-code : goal.take_turn-requires-clause-code
take_turn-requires-clause-code g c = c.turns.invariant.code ∙ c.requires.code

pub take_turn-requires-clause-fit : goal.take_turn-requires-clause-fit
take_turn-requires-clause-fit g c = subst (λ (x : Code). NamesFit x c.args.names.now) (sym c.turns.invariant.code) c.requires.fit

pub take_turn-requires-clause-sound : goal.take_turn-requires-clause-sound
take_turn-requires-clause-sound g c =
    subst (λ (x : Code). IsSoundFor x c.turns.machine.groups) (sym c.turns.invariant.code)
    (subst (IsSoundFor c.args.machine.now.code) (sym c.turns.invariant.groups) c.requires.sound)

pub take_turn-requires-clause-more : goal.take_turn-requires-clause-more
take_turn-requires-clause-more g c = omega (arith, c.turns.invariant.few, ap length c.in-Some.ensures.0)

pub turns-preserved : goal.turns-preserved
turns-preserved g c =
    let parts = c.in-Some.ensures.0 in
    let m = c.turns.machine in
    let now = c.take_turn.new.machine in
    let after = c.in_ok-take_turn.ensures.machine in
    let names = naming c.args.names.now in
    let places = c.args.places.now in
    record {
      code = code_after m now c.in-Some.p after ∙ c.turns.invariant.code;
      groups = groups_after m now c.in-Some.p after ∙ c.turns.invariant.groups;
      of_run = of_run_next m now c.in-Some.p (code_after m now c.in-Some.p after) (groups_after m now c.in-Some.p after)
          (ap (λ (x : Seen). x.world) after) (ap (λ (x : Seen). x.taken) after) c.turns.invariant.of_run;
      waits = none_after m now c.in-Some.p after c.turns.invariant.waits;
      kept = c.in_ok-take_turn.ensures.kept;
      few = few_after m now c.in-Some.p after c.turns.schedule.left c.next.new.self.left parts c.turns.invariant.few;
      led = led_after m now c.in-Some.p after c.turns.schedule.left c.next.new.self.left parts ∙ c.turns.invariant.led;
      text = remains_less (turn_shown names places m c.in-Some.p) (turns_shown names places now c.next.new.self.left)
          (turns_shown names places c.args.machine.now c.args.schedule.left)
          (g.S.Sink.written c.args.out.now) (g.S.Sink.written c.turns.out) (g.S.Sink.written c.take_turn.new.out)
          (g.S.Sink.faults c.args.out.now) (g.S.Sink.faults c.turns.out) (g.S.Sink.faults c.take_turn.new.out)
          (remains_same _ _ _ _ _ _ _ (shown_after m now c.in-Some.p after c.turns.schedule.left c.next.new.self.left parts names places)
          c.turns.invariant.text) c.in_ok-take_turn.ensures.text;
    }

pub returns-in_err-take_turn-clause-text : goal.returns-in_err-take_turn-clause-text
returns-in_err-take_turn-clause-text g c =
    let m = c.turns.machine in
    let names = naming c.args.names.now in
    let places = c.args.places.now in
    let after = record m { world = (turned m c.in-Some.p).0; taken = m.taken + 1 } in
    remains_stopped (turn_shown names places m c.in-Some.p) (turns_shown names places after c.next.new.self.left)
    (turns_shown names places c.args.machine.now c.args.schedule.left)
    (g.S.Sink.written c.args.out.now) (g.S.Sink.written c.turns.out) (g.S.Sink.written c.take_turn.new.out)
    (g.S.Sink.faults c.args.out.now) (g.S.Sink.faults c.turns.out) (g.S.Sink.faults c.take_turn.new.out)
    c.in_err-take_turn.field-0.0 c.from_residual.result c.from_residual.ensures.0
    (remains_same _ _ _ _ _ _ _ (shown_after m after c.in-Some.p refl c.turns.schedule.left c.next.new.self.left c.in-Some.ensures.0 names places)
    c.turns.invariant.text) c.in_err-take_turn.ensures.text

pub returns-clause-text : goal.returns-clause-text
returns-clause-text g c =
    let names = naming c.args.names.now in
    let places = c.args.places.now in
    remains_none _ _ _ _ _
    (remains_same (turns_shown names places c.turns.machine c.turns.schedule.left) [] _ _ _ _ _
    (ap (turns_shown names places c.turns.machine) c.in_default.ensures.0) c.turns.invariant.text)

pub returns-clause-ran : goal.returns-clause-ran
returns-clause-ran g c = sym (ran_all c.turns.machine c.turns.schedule.left c.in_default.ensures.0) ∙ c.turns.invariant.led
