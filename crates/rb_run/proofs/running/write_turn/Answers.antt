-- Where there are no lines nothing is written.
use Rattle.std.proofs.Common.{ℕ, Bool, false, List, [], ◌++◌, Ok, sym, subst}
use Rattle.std.proofs.lemmas.List.{append-nil}
use Rattle.rb_outside.specs.declared.Failed.{Failed}
use Rattle.rb_outside.specs.Puts.{Puts}
use Rattle.rb_outside.proofs.Puts.{puts_nothing, puts_same, puts_stopped_at}
use Rattle.rb_trace.specs.Naming.{naming}
use Rattle.rb_trace.specs.Report.{told_of}
use Rattle.rb_world.specs.Text.{told_text}
use Rattle.rb_run.proofs.Completes.{put_so}
use Rattle.rb_run.proofs.NoLines.{no_text}
use Rattle.rb_run.proofs.running.write_turn.Goals as goal

pub returns-then-not-has_lines-clause-text : goal.returns-then-not-has_lines-clause-text
returns-then-not-has_lines-clause-text g c =
    let written = g.S.Sink.written c.args.out.now in
    let faults = g.S.Sink.faults c.args.out.now in
    subst (λ (bytes : List ℕ). Puts {T = Bool} {E = Failed} bytes written written faults faults (Ok false))
    (no_text c.args.report.now c.args.machine.now (c.has_lines.ensures c.if-not-has_lines.true) (naming c.args.names.now) c.args.machine.now.taken)
    (puts_nothing written faults false)

pub returns-in_err-write_report-clause-text : goal.returns-in_err-write_report-clause-text
returns-in_err-write_report-clause-text g c =
    let told = told_of c.args.report.now.kind c.args.report.now.events.items c.args.machine.now.waiting in
    let names = naming c.args.names.now in
    let w0 = g.S.Sink.written c.args.out.now in
    let w1 = g.S.Sink.written c.write_report.new.out in
    let f0 = g.S.Sink.faults c.args.out.now in
    let f1 = g.S.Sink.faults c.write_report.new.out in
    subst (λ (t : ℕ). Puts {T = Bool} {E = Failed} (told_text names t told) w0 w1 f0 f1 c.from_residual.result) c.turns_taken.ensures
    (puts_same (told_text names c.turns_taken.result told ++ []) (told_text names c.turns_taken.result told) w0 w1 f0 f1 c.from_residual.result
    (append-nil (told_text names c.turns_taken.result told))
    (puts_stopped_at (told_text names c.turns_taken.result told) [] w0 w1 f0 f1 c.in_err-write_report.field-0.0 c.from_residual.result
    c.from_residual.ensures.0 c.in_err-write_report.ensures.text))

pub returns-clause-text : goal.returns-clause-text
returns-clause-text g c =
    let told = told_of c.args.report.now.kind c.args.report.now.events.items c.args.machine.now.waiting in
    subst (λ (t : ℕ). Puts {T = Bool} {E = Failed} (told_text (naming c.args.names.now) t told) (g.S.Sink.written c.args.out.now)
    (g.S.Sink.written c.write_report.new.out) (g.S.Sink.faults c.args.out.now) (g.S.Sink.faults c.write_report.new.out) (Ok c.is_over.result))
    c.turns_taken.ensures (put_so c.in_ok-write_report.ensures.text)
