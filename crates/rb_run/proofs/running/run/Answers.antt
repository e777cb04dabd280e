-- The three parts of a run, and what each asks for.
use Rattle.std.proofs.Common.{ap, arith, false, length}
use Rattle.rb_trace.specs.Ended.{state_of}
use Rattle.rb_trace.specs.Naming.{naming}
use Rattle.rb_trace.specs.Report.{told_of}
use Rattle.rb_world.specs.Text.{end_text, told_text}
use Rattle.rb_code.specs.WordMachine.WordRun.{word_final}
use Rattle.rb_machine.specs.Machine.{Seen}
use Rattle.rb_run.proofs.AsMeant.{written_as_meant}
use Rattle.rb_run.proofs.RunWritten.{end_fits, ending_text, first_text, is_end, named_now, states_each, stopped_at_first, stopped_at_second, turns_text, waits_now, written_whole}
use Rattle.rb_run.proofs.TurnsTaken.{turns_left}
use Rattle.rb_run.proofs.TurnsWork.{work_first}
use Rattle.rb_run.proofs.running.run.Goals as goal

pub returns-in_err-write_report-clause-text : goal.returns-in_err-write_report-clause-text
returns-in_err-write_report-clause-text g c =
    let old = c.args.machine.now in
    let first = first_text old false c.requires.fresh c.args.names.now c.requires.fit c.requires.named c.opening-report.result.kind
    c.opening-report.result.events.items c.opening-report.ensures.told in
    stopped_at_first old c.args.schedule.all (g.S.Sink.written c.args.out.now) (g.S.Sink.written c.write_report.new.out)
    (g.S.Sink.faults c.args.out.now) (g.S.Sink.faults c.write_report.new.out) c.in_err-write_report.field-0.0 c.from_residual.result
    c.from_residual.ensures.0
    (told_text (naming c.args.names.now) 0 (told_of c.opening-report.result.kind c.opening-report.result.events.items old.waiting)) first
    c.in_err-write_report.ensures.text

pub take_turns-requires-clause-named : goal.take_turns-requires-clause-named
take_turns-requires-clause-named g c =
    named_now c.args.machine.now false c.requires.fresh c.args.names.now c.requires.fit c.write_report.new.lines
    c.in_ok-write_report.ensures.none_waits c.write_report.ensures.rest

pub take_turns-requires-clause-waits : goal.take_turns-requires-clause-waits
take_turns-requires-clause-waits g c =
    waits_now c.args.machine.now false c.requires.fresh c.args.names.now c.requires.fit c.write_report.new.lines
    c.in_ok-write_report.ensures.none_waits c.write_report.ensures.rest

pub take_turns-requires-clause-end : goal.take_turns-requires-clause-end
take_turns-requires-clause-end g c =
    omega (
      arith,
      ap (λ (m : Seen). m.taken) c.requires.fresh,
      ap (λ (m : Seen). m.taken) c.write_report.ensures.rest,
      ap length c.requires.whole,
    )

pub returns-in_err-take_turns-clause-text : goal.returns-in_err-take_turns-clause-text
returns-in_err-take_turns-clause-text g c =
    let old = c.args.machine.now in
    let now = c.write_report.new.lines in
    let first = first_text old false c.requires.fresh c.args.names.now c.requires.fit c.requires.named c.opening-report.result.kind
    c.opening-report.result.events.items c.opening-report.ensures.told in
    let turns = turns_text old false c.requires.fresh c.args.names.now c.requires.fit now c.in_ok-write_report.ensures.none_waits
    c.write_report.ensures.rest c.args.schedule.all c.args.schedule.left c.requires.whole c.requires.named in
    stopped_at_second old c.args.schedule.all (g.S.Sink.written c.args.out.now) (g.S.Sink.written c.write_report.new.out)
    (g.S.Sink.written c.take_turns.new.out) (g.S.Sink.faults c.args.out.now) (g.S.Sink.faults c.write_report.new.out)
    (g.S.Sink.faults c.take_turns.new.out) c.in_err-take_turns.field-0.0 c.from_residual-in_err-take_turns.result
    c.from_residual-in_err-take_turns.ensures.0
    (told_text (naming c.args.names.now) 0 (told_of c.opening-report.result.kind c.opening-report.result.events.items old.waiting))
    (turns_left (naming c.args.names.now) now c.args.schedule.left) first turns c.in_ok-write_report.ensures.text
    c.in_err-take_turns.ensures.text

pub write_end-requires-clause-states : goal.write_end-requires-clause-states
write_end-requires-clause-states g c =
    states_each c.args.machine.now false c.requires.fresh c.args.names.now c.requires.fit c.write_report.new.lines
    c.in_ok-write_report.ensures.none_waits c.write_report.ensures.rest c.args.schedule.all c.args.schedule.left c.requires.whole
    c.take_turns.new.machine c.in_ok-take_turns.ensures.ran (λ q. state_of (q.status, length q.levels))

pub write_end-requires-clause-fit : goal.write_end-requires-clause-fit
write_end-requires-clause-fit g c =
    end_fits c.args.machine.now false c.requires.fresh c.args.names.now c.requires.fit c.write_report.new.lines
    c.in_ok-write_report.ensures.none_waits c.write_report.ensures.rest c.args.schedule.all c.args.schedule.left c.requires.whole
    c.take_turns.new.machine c.in_ok-take_turns.ensures.ran c.opening-report.ensures.sound

pub returns-clause-text : goal.returns-clause-text
returns-clause-text g c =
    let old = c.args.machine.now in
    let now = c.write_report.new.lines in
    let later = c.take_turns.new.machine in
    let first = first_text old false c.requires.fresh c.args.names.now c.requires.fit c.requires.named c.opening-report.result.kind
    c.opening-report.result.events.items c.opening-report.ensures.told in
    let turns = turns_text old false c.requires.fresh c.args.names.now c.requires.fit now c.in_ok-write_report.ensures.none_waits
    c.write_report.ensures.rest c.args.schedule.all c.args.schedule.left c.requires.whole c.requires.named in
    let ending = ending_text old false c.requires.fresh c.args.names.now c.requires.fit now c.in_ok-write_report.ensures.none_waits
    c.write_report.ensures.rest c.args.schedule.all c.args.schedule.left c.requires.whole later c.in_ok-take_turns.ensures.ran
    c.requires.named c.turns-turns.result c.turns-turns.ensures.all in
    written_whole old c.args.schedule.all (g.S.Sink.written c.args.out.now) (g.S.Sink.written c.write_report.new.out)
    (g.S.Sink.written c.take_turns.new.out) (g.S.Sink.written c.write_end.new.out) (g.S.Sink.faults c.args.out.now)
    (g.S.Sink.faults c.write_report.new.out) (g.S.Sink.faults c.take_turns.new.out) (g.S.Sink.faults c.write_end.new.out)
    c.write_end.result
    (told_text (naming c.args.names.now) 0 (told_of c.opening-report.result.kind c.opening-report.result.events.items old.waiting))
    (turns_left (naming c.args.names.now) now c.args.schedule.left)
    (end_text (naming c.args.names.now) c.turns-turns.result (word_final later.code later.world)) first turns ending
    c.in_ok-write_report.ensures.text c.in_ok-take_turns.ensures.text
    (c.write_end.ensures.text (word_final later.code later.world) (is_end later))

pub returns-in_err-take_turns-clause-work : goal.returns-in_err-take_turns-clause-work
returns-in_err-take_turns-clause-work g c =
    omega (
      arith,
      c.take_turns.ensures.work,
      work_first c.args.machine.now c.write_report.new.lines false c.requires.fresh c.write_report.ensures.rest c.args.schedule.left c.args.schedule.all c.requires.whole,
    )

pub returns-clause-work : goal.returns-clause-work
returns-clause-work g c =
    omega (
      arith,
      c.take_turns.ensures.work,
      c.write_end.ensures.work,
      work_first c.args.machine.now c.write_report.new.lines false c.requires.fresh c.write_report.ensures.rest c.args.schedule.left c.args.schedule.all c.requires.whole,
    )

-- So it is in the meaning of its source.
pub returns-in_err-write_report-clause-meant : goal.returns-in_err-write_report-clause-meant
returns-in_err-write_report-clause-meant g c =
    written_as_meant c.args.machine.now.code c.args.machine.now.groups c.args.schedule.all _ _ _ _ _ (returns-in_err-write_report-clause-text g c)

pub returns-in_err-take_turns-clause-meant : goal.returns-in_err-take_turns-clause-meant
returns-in_err-take_turns-clause-meant g c =
    written_as_meant c.args.machine.now.code c.args.machine.now.groups c.args.schedule.all _ _ _ _ _ (returns-in_err-take_turns-clause-text g c)

pub returns-clause-meant : goal.returns-clause-meant
returns-clause-meant g c =
    written_as_meant c.args.machine.now.code c.args.machine.now.groups c.args.schedule.all _ _ _ _ _ (returns-clause-text g c)
