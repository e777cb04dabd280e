-- The parts of a trace, and what each asks for.
use Rattle.std.proofs.Common.{ap, false, length, sym, ◌∙◌, subst, arith}
use Rattle.rb_outside.proofs.Puts.{puts_both, puts_same, puts_stopped_at}
use Rattle.rb_trace.specs.Ended.{state_of}
use Rattle.rb_code.specs.Instructions.Plain.{code as plain}
use Rattle.rb_code.specs.WordMachine.WordRun.{word_final}
use Rattle.rb_recovery.specs.Known.{IsSoundFor}
use Rattle.rb_machine.specs.Machine.{Seen}
use Rattle.rb_run.specs.Running.{NamesFit}
use Rattle.rb_run.proofs.RunWritten.{end_fits, ending_text, is_end, lines_each, states_each, waits_now}
use Rattle.rb_view.specs.Steady.{IsOfRun, IsSized, noted_now}
use Rattle.rb_view.proofs.Between.{of_run_first, steady}
use Rattle.rb_view.proofs.Shapes.{sized_first}
use Rattle.rb_view.proofs.Whole.{before_here, end_is, head_is, loaded_from, opening_is, still, turns_are}
use Rattle.rb_view.proofs.trace.write_trace.Goals as goal

pub write_told-requires-clause-steady : goal.write_told-requires-clause-steady
write_told-requires-clause-steady g c =
    let l = loaded_from c.args.machine.now c.args.code.now _ c.requires.fresh c.requires.fit in
    steady c.args.machine.now c.opening-report.ensures.sound (of_run_first c.args.machine.now false l.fresh)

pub write_told-requires-clause-fit : goal.write_told-requires-clause-fit
write_told-requires-clause-fit g c =
    let l = loaded_from c.args.machine.now c.args.code.now _ c.requires.fresh c.requires.fit in
    l.fit

pub write_told-requires-clause-sized : goal.write_told-requires-clause-sized
write_told-requires-clause-sized g c =
    let l = loaded_from c.args.machine.now c.args.code.now _ c.requires.fresh c.requires.fit in
    let old = c.args.machine.now in
    subst (IsSized old.code old.groups) (sym (before_here old c.args.code.now _ l c.args.was.now c.requires.before)) (sized_first old.code old.groups)

pub write_told-requires-clause-waiting : goal.write_told-requires-clause-waiting
write_told-requires-clause-waiting g c =
    let l = loaded_from c.args.machine.now c.args.code.now _ c.requires.fresh c.requires.fit in
    lines_each c.args.machine.now false l.fresh c.args.code.now.names l.fit

-- the machine is as it was loaded
pub take_turns-requires-clause-code : goal.take_turns-requires-clause-code
take_turns-requires-clause-code g c =
    let l = loaded_from c.args.machine.now c.args.code.now _ c.requires.fresh c.requires.fit in
    let same = still c.args.machine.now c.args.code.now _ l c.write_told.new.machine c.in_ok-write_told.ensures.none_waits c.write_told.ensures.rest in
    ap (λ (x : Seen). x.code) same ∙ l.code_is

pub take_turns-requires-clause-named : goal.take_turns-requires-clause-named
take_turns-requires-clause-named g c =
    let l = loaded_from c.args.machine.now c.args.code.now _ c.requires.fresh c.requires.fit in
    let same = still c.args.machine.now c.args.code.now _ l c.write_told.new.machine c.in_ok-write_told.ensures.none_waits c.write_told.ensures.rest in
    l.named ∙ sym (ap (λ (x : Seen). x.code.names) same)

pub take_turns-requires-clause-fit : goal.take_turns-requires-clause-fit
take_turns-requires-clause-fit g c =
    let l = loaded_from c.args.machine.now c.args.code.now _ c.requires.fresh c.requires.fit in
    let same = still c.args.machine.now c.args.code.now _ l c.write_told.new.machine c.in_ok-write_told.ensures.none_waits c.write_told.ensures.rest in
    subst (λ (x : Seen). NamesFit x.code c.args.code.now.names) (sym same) l.fit

pub take_turns-requires-clause-sound : goal.take_turns-requires-clause-sound
take_turns-requires-clause-sound g c =
    let l = loaded_from c.args.machine.now c.args.code.now _ c.requires.fresh c.requires.fit in
    let same = still c.args.machine.now c.args.code.now _ l c.write_told.new.machine c.in_ok-write_told.ensures.none_waits c.write_told.ensures.rest in
    subst (λ (x : Seen). IsSoundFor x.code x.groups) (sym same) c.opening-report.ensures.sound

pub take_turns-requires-clause-of_run : goal.take_turns-requires-clause-of_run
take_turns-requires-clause-of_run g c =
    let l = loaded_from c.args.machine.now c.args.code.now _ c.requires.fresh c.requires.fit in
    let same = still c.args.machine.now c.args.code.now _ l c.write_told.new.machine c.in_ok-write_told.ensures.none_waits c.write_told.ensures.rest in
    subst IsOfRun (sym same) (of_run_first c.args.machine.now false l.fresh)

pub take_turns-requires-clause-waits : goal.take_turns-requires-clause-waits
take_turns-requires-clause-waits g c =
    let l = loaded_from c.args.machine.now c.args.code.now _ c.requires.fresh c.requires.fit in
    waits_now c.args.machine.now false l.fresh c.args.code.now.names l.fit c.write_told.new.machine c.in_ok-write_told.ensures.none_waits
    c.write_told.ensures.rest

pub take_turns-requires-clause-before : goal.take_turns-requires-clause-before
take_turns-requires-clause-before g c =
    let l = loaded_from c.args.machine.now c.args.code.now _ c.requires.fresh c.requires.fit in
    let same = still c.args.machine.now c.args.code.now _ l c.write_told.new.machine c.in_ok-write_told.ensures.none_waits c.write_told.ensures.rest in
    c.in_ok-write_told.ensures.kept ∙ ap noted_now (sym same)

pub take_turns-requires-clause-turns : goal.take_turns-requires-clause-turns
take_turns-requires-clause-turns g c =
    let l = loaded_from c.args.machine.now c.args.code.now _ c.requires.fresh c.requires.fit in
    let same = still c.args.machine.now c.args.code.now _ l c.write_told.new.machine c.in_ok-write_told.ensures.none_waits c.write_told.ensures.rest in
    omega (
      arith,
      c.requires.turns,
      ap (λ (x : Seen). x.taken) same,
      ap (λ (x : Seen). x.most) same,
      ap (λ (x : Seen). x.taken) l.fresh,
    )

pub write_end-requires-clause-states : goal.write_end-requires-clause-states
write_end-requires-clause-states g c =
    let l = loaded_from c.args.machine.now c.args.code.now _ c.requires.fresh c.requires.fit in
    states_each c.args.machine.now false l.fresh c.args.code.now.names l.fit c.write_told.new.machine
    c.in_ok-write_told.ensures.none_waits c.write_told.ensures.rest c.args.schedule.all c.args.schedule.left c.requires.whole
    c.take_turns.new.machine c.in_ok-take_turns.ensures.ran (λ q. state_of (q.status, length q.levels))

pub write_end-requires-clause-fit : goal.write_end-requires-clause-fit
write_end-requires-clause-fit g c =
    let l = loaded_from c.args.machine.now c.args.code.now _ c.requires.fresh c.requires.fit in
    end_fits c.args.machine.now false l.fresh c.args.code.now.names l.fit c.write_told.new.machine
    c.in_ok-write_told.ensures.none_waits c.write_told.ensures.rest c.args.schedule.all c.args.schedule.left c.requires.whole
    c.take_turns.new.machine c.in_ok-take_turns.ensures.ran c.opening-report.ensures.sound

-- the writing, up to a failure
pub returns-in_err-write_head : goal.returns-in_err-write_head
returns-in_err-write_head g c =
    let head = puts_same _ _ _ _ _ _ _
    (head_is (plain c.args.code.now) c.args.nested.now.conversations.items c.turns-turns.result c.args.schedule.all c.turns-turns.ensures.all) c.in_err-write_head.ensures in
    puts_stopped_at _ _ _ _ _ _ _ c.from_residual.result c.from_residual.ensures.0 head

pub returns-in_err-write_told : goal.returns-in_err-write_told
returns-in_err-write_told g c =
    let l = loaded_from c.args.machine.now c.args.code.now _ c.requires.fresh c.requires.fit in
    let head = puts_same _ _ _ _ _ _ _
    (head_is (plain c.args.code.now) c.args.nested.now.conversations.items c.turns-turns.result c.args.schedule.all c.turns-turns.ensures.all) c.in_ok-write_head.ensures in
    let opening = puts_same _ _ _ _ _ _ _
    (opening_is c.args.machine.now c.args.code.now _ l c.args.places.now c.args.was.now c.requires.before c.opening-report.result.kind
    c.opening-report.result.events.items c.opening-report.ensures.told) c.in_err-write_told.ensures.text in
    puts_both _ _ _ _ _ _ _ _ _ _ head
    (puts_stopped_at _ _ _ _ _ _ _ c.from_residual-in_err-write_told.result c.from_residual-in_err-write_told.ensures.0 opening)

pub returns-in_err-take_turns : goal.returns-in_err-take_turns
returns-in_err-take_turns g c =
    let l = loaded_from c.args.machine.now c.args.code.now _ c.requires.fresh c.requires.fit in
    let same = still c.args.machine.now c.args.code.now _ l c.write_told.new.machine c.in_ok-write_told.ensures.none_waits c.write_told.ensures.rest in
    let head = puts_same _ _ _ _ _ _ _
    (head_is (plain c.args.code.now) c.args.nested.now.conversations.items c.turns-turns.result c.args.schedule.all c.turns-turns.ensures.all) c.in_ok-write_head.ensures in
    let opening = puts_same _ _ _ _ _ _ _
    (opening_is c.args.machine.now c.args.code.now _ l c.args.places.now c.args.was.now c.requires.before c.opening-report.result.kind
    c.opening-report.result.events.items c.opening-report.ensures.told) c.in_ok-write_told.ensures.text in
    let turns = puts_same _ _ _ _ _ _ _
    (turns_are c.args.machine.now c.args.code.now _ l c.args.places.now c.write_told.new.machine same c.args.schedule.left c.args.schedule.all
    c.requires.whole) c.in_err-take_turns.ensures.text in
    puts_both _ _ _ _ _ _ _ _ _ _ head
    (puts_both _ _ _ _ _ _ _ _ _ _ opening
    (puts_stopped_at _ _ _ _ _ _ _ c.from_residual-in_err-take_turns.result c.from_residual-in_err-take_turns.ensures.0 turns))

pub returns : goal.returns
returns g c =
    let l = loaded_from c.args.machine.now c.args.code.now _ c.requires.fresh c.requires.fit in
    let later = c.take_turns.new.machine in
    let all = c.args.schedule.all in
    let same = still c.args.machine.now c.args.code.now _ l c.write_told.new.machine c.in_ok-write_told.ensures.none_waits c.write_told.ensures.rest in
    let head = puts_same _ _ _ _ _ _ _
    (head_is (plain c.args.code.now) c.args.nested.now.conversations.items c.turns-turns.result c.args.schedule.all c.turns-turns.ensures.all) c.in_ok-write_head.ensures in
    let opening = puts_same _ _ _ _ _ _ _
    (opening_is c.args.machine.now c.args.code.now _ l c.args.places.now c.args.was.now c.requires.before c.opening-report.result.kind
    c.opening-report.result.events.items c.opening-report.ensures.told) c.in_ok-write_told.ensures.text in
    let turns = puts_same _ _ _ _ _ _ _
    (turns_are c.args.machine.now c.args.code.now _ l c.args.places.now c.write_told.new.machine same c.args.schedule.left c.args.schedule.all
    c.requires.whole) c.in_ok-take_turns.ensures.text in
    let ending = ending_text c.args.machine.now false l.fresh c.args.code.now.names l.fit c.write_told.new.machine c.in_ok-write_told.ensures.none_waits
    c.write_told.ensures.rest all c.args.schedule.left c.requires.whole later c.in_ok-take_turns.ensures.ran l.named c.turns-turns.result
    c.turns-turns.ensures.all ∙ end_is c.args.machine.now c.args.code.now _ l all in
    puts_both _ _ _ _ _ _ _ _ _ _ head
    (puts_both _ _ _ _ _ _ _ _ _ _ opening
    (puts_both _ _ _ _ _ _ _ _ _ _ turns
    (puts_same _ _ _ _ _ _ _ ending (c.write_end.ensures.text (word_final later.code later.world) (is_end later)))))
