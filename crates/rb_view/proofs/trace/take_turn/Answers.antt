-- What is written of a turn is its text.
use Rattle.std.proofs.Common.{◌++◌, length, sym, ap, ◌∙◌, subst, arith}
use Rattle.std.proofs.lemmas.Result.{on_ok_weaker}
use Rattle.rb_outside.proofs.Puts.{puts_both, puts_nothing, puts_same, puts_stopped_at}
use Rattle.rb_trace.specs.Naming.{naming}
use Rattle.rb_trace.specs.Report.{told_of}
use Rattle.rb_world.specs.Text.{told_text}
use Rattle.rb_world.proofs.ListFacts.{slice_get-there}
use Rattle.rb_code.specs.Instructions.Plain.{Code}
use Rattle.rb_recovery.specs.Known.{IsSoundFor}
use Rattle.rb_machine.specs.Machine.{Seen}
use Rattle.rb_run.specs.Running.{NamesFit}
use Rattle.rb_changes.specs.Changes.{changes}
use Rattle.rb_picture.specs.Trace.{address_told, back_text, place_at}
use Rattle.rb_picture.specs.Turns.{turn_line}
use Rattle.rb_run.proofs.TurnsTaken.{is_after, released_each}
use Rattle.rb_view.specs.Steady.{IsSized, shown_now}
use Rattle.rb_view.proofs.Between.{of_run_next, steady}
use Rattle.rb_view.proofs.Shapes.{sized_now}
use Rattle.rb_view.proofs.Turning.{names_each, no_turn, noted_lines, turn_is}
use Rattle.rb_view.proofs.trace.take_turn.Goals as goal

-- p is the number of a process
pub asked_of-asked-requires : goal.asked_of-asked-requires
asked_of-asked-requires g c =
    let m = c.args.machine.now in
    omega (arith, c.if-p-len.false, names_each m c.args.names.now (steady m c.requires.sound c.requires.of_run) c.requires.fit)

pub place_of-place-requires : goal.place_of-place-requires
place_of-place-requires g c =
    let m = c.args.machine.now in
    omega (arith, c.if-p-len.false, names_each m c.args.names.now (steady m c.requires.sound c.requires.of_run) c.requires.fit)

pub write_told-requires-clause-steady : goal.write_told-requires-clause-steady
write_told-requires-clause-steady g c =
    let m = c.args.machine.now in
    let turned_is = c.turn.ensures.turned.machine in
    let turning = c.turn.new.self in
    steady turning
    (subst (λ (x : Seen). IsSoundFor x.code x.groups) (sym turned_is) c.requires.sound)
    (of_run_next m turning c.args.p (ap (λ (x : Seen). x.code) turned_is) (ap (λ (x : Seen). x.groups) turned_is)
    (ap (λ (x : Seen). x.world) turned_is) (ap (λ (x : Seen). x.taken) turned_is) c.requires.of_run)

pub write_told-requires-clause-fit : goal.write_told-requires-clause-fit
write_told-requires-clause-fit g c =
    subst (λ (x : Code). NamesFit x c.args.names.now) (sym (ap (λ (x : Seen). x.code) c.turn.ensures.turned.machine)) c.requires.fit

pub write_told-requires-clause-sized : goal.write_told-requires-clause-sized
write_told-requires-clause-sized g c =
    let m = c.args.machine.now in
    subst (λ (x : Seen). IsSized x.code x.groups c.args.was.now) (sym c.turn.ensures.turned.machine)
    (subst (IsSized m.code m.groups) (sym c.requires.before) (sized_now m (steady m c.requires.sound c.requires.of_run)))

pub write_told-requires-clause-waiting : goal.write_told-requires-clause-waiting
write_told-requires-clause-waiting g c =
    let m = c.args.machine.now in
    ap (λ (x : Seen). length x.waiting) c.turn.ensures.turned.machine ∙ released_each m c.args.p
    ∙ sym (names_each m c.args.names.now (steady m c.requires.sound c.requires.of_run) c.requires.fit)

-- a turn of no process
pub returns-then-p-len-clause-text : goal.returns-then-p-len-clause-text
returns-then-p-len-clause-text g c =
    let m = c.args.machine.now in
    puts_same _ _ _ _ _ _ _
    (no_turn m c.args.p (omega (arith, c.if-p-len.true, names_each m c.args.names.now (steady m c.requires.sound c.requires.of_run) c.requires.fit))
    (naming c.args.names.now) c.args.places.now)
    (puts_nothing _ _ tt)

-- its line, and the rest
pub returns-in_err-write_turn-clause-text : goal.returns-in_err-write_turn-clause-text
returns-in_err-write_turn-clause-text g c =
    let m = c.args.machine.now in
    let turning = c.turn.new.self in
    let names = naming c.args.names.now in
    let told = told_of c.turn.new.report.kind c.turn.new.report.events.items turning.waiting in
    let q = slice_get-there m.world.processes c.args.p
    (omega (arith, c.if-p-len.false, names_each m c.args.names.now (steady m c.requires.sound c.requires.of_run) c.requires.fit)) in
    let place = c.place_of-place.ensures q.0 q.1
    ∙ ap (λ (x : Code). place_at c.args.places.now (address_told x q.0.status q.0)) (sym c.requires.code) in
    let t = c.turns_taken-turn.result in
    let rest = told_text names t told ++ (back_text told.kind t names c.args.was.now (shown_now turning) ++ changes t names c.args.was.now (shown_now turning)) in
    puts_same _ _ _ _ _ _ _
    (turn_is m turning c.args.p told c.turn.ensures.turned q.0 q.1 names c.args.places.now t c.place_of-place.result c.asked_of-asked.result c.args.was.now
    c.turns_taken-turn.ensures place (c.asked_of-asked.ensures q.0 q.1) c.requires.before)
    (puts_stopped_at (turn_line names t c.args.p c.place_of-place.result told.kind c.asked_of-asked.result) rest _ _ _ _ _ c.from_residual.result
    c.from_residual.ensures.0 c.in_err-write_turn.ensures)

pub returns-clause-text : goal.returns-clause-text
returns-clause-text g c =
    let m = c.args.machine.now in
    let turning = c.turn.new.self in
    let names = naming c.args.names.now in
    let told = told_of c.turn.new.report.kind c.turn.new.report.events.items turning.waiting in
    let q = slice_get-there m.world.processes c.args.p
    (omega (arith, c.if-p-len.false, names_each m c.args.names.now (steady m c.requires.sound c.requires.of_run) c.requires.fit)) in
    let place = c.place_of-place.ensures q.0 q.1
    ∙ ap (λ (x : Code). place_at c.args.places.now (address_told x q.0.status q.0)) (sym c.requires.code) in
    let t = c.turns_taken-turn.result in
    puts_same _ _ _ _ _ _ _
    (turn_is m turning c.args.p told c.turn.ensures.turned q.0 q.1 names c.args.places.now t c.place_of-place.result c.asked_of-asked.result c.args.was.now
    c.turns_taken-turn.ensures place (c.asked_of-asked.ensures q.0 q.1) c.requires.before)
    (puts_both (turn_line names t c.args.p c.place_of-place.result told.kind c.asked_of-asked.result) _ _ _ _ _ _ _ _ _ c.in_ok-write_turn.ensures
    c.write_told.ensures.text)

-- how it leaves the machine, and what is kept of it
pub returns-clause-machine : goal.returns-clause-machine
returns-clause-machine g c =
    let m = c.args.machine.now in
    let turning = c.turn.new.self in
    let now = c.write_told.new.machine in
    let told = told_of c.turn.new.report.kind c.turn.new.report.events.items turning.waiting in
    on_ok_weaker c.write_told.result (λ none. is_after m turning now c.args.p told c.turn.ensures.turned c.requires.waits none c.write_told.ensures.rest)
    c.write_told.ensures.none_waits

pub returns-clause-kept : goal.returns-clause-kept
returns-clause-kept g c =
    on_ok_weaker c.write_told.result (λ kept. kept ∙ sym (noted_lines c.turn.new.self c.write_told.new.machine c.write_told.ensures.rest))
    c.write_told.ensures.kept
