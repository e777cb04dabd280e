use Rattle.std.proofs.Common.{false, sym, ap, subst, ◌∙◌}
use Rattle.rb_code.specs.Instructions.Plain.{code}
use Rattle.rb_code.specs.WordMachine.WordRun.{word_text}
use Rattle.rb_conv.specs.Conversations.{memberships, opening}
use Rattle.rb_machine.specs.Machine.{Seen, opening_seen}
use Rattle.rb_run.specs.Running.{NamesFit}
use Rattle.rb_turns.proofs.Ending.{put_done, put_stopped}
use Rattle.rb_turns.proofs.run.run_turns.Goals as goal

pub run-requires-clause-fresh : goal.run-requires-clause-fresh
run-requires-clause-fresh g c =
    let loaded = c.in-Ok.ensures in
    loaded ∙ sym (ap (λ (m : Seen). opening_seen m.code m.groups false m.most) loaded)

pub run-requires-clause-named : goal.run-requires-clause-named
run-requires-clause-named g c = ap (λ (m : Seen). m.code.names) (sym c.in-Ok.ensures)

pub run-requires-clause-fit : goal.run-requires-clause-fit
run-requires-clause-fit g c = subst (λ (m : Seen). NamesFit m.code c.args.code.now.names) (sym c.in-Ok.ensures) c.requires.fit

pub returns-in-Ok-run : goal.returns-in-Ok-run
returns-in-Ok-run g c =
    let turns = c.args.schedule.all in
    let machine = c.in-Ok.machine in
    put_done (word_text machine.code machine.groups turns) (word_text (code c.args.code.now) (memberships (opening c.args.nested.now)) turns)
    (ap (λ (m : Seen). word_text m.code m.groups turns) c.in-Ok.ensures)
    (g.S.Sink.written c.args.out.now) (g.S.Sink.written c.run.new.out) (g.S.Sink.faults c.args.out.now) (g.S.Sink.faults c.run.new.out)
    tt c.in-Ok-run.ensures.text

pub returns-in-Ok : goal.returns-in-Ok
returns-in-Ok g c =
    let turns = c.args.schedule.all in
    let machine = c.in-Ok.machine in
    put_stopped (word_text machine.code machine.groups turns) (word_text (code c.args.code.now) (memberships (opening c.args.nested.now)) turns)
    (ap (λ (m : Seen). word_text m.code m.groups turns) c.in-Ok.ensures)
    (g.S.Sink.written c.args.out.now) (g.S.Sink.written c.run.new.out) (g.S.Sink.faults c.args.out.now) (g.S.Sink.faults c.run.new.out)
    c.in-Err-run.field-0 c.in-Err-run.ensures.text
