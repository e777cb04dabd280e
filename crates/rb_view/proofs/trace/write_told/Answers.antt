-- What was told, and then what changed.
use Rattle.std.proofs.Common.{ℕ, List, ◌++◌, ap, ◌∙◌}
use Rattle.rb_outside.proofs.Puts.{puts_both, puts_same, puts_stopped_at}
use Rattle.rb_trace.specs.Naming.{naming}
use Rattle.rb_changes.specs.Changes.{changes}
use Rattle.rb_changes.specs.Shown.{WorldShown}
use Rattle.rb_picture.specs.Trace.{back_text}
use Rattle.rb_view.specs.Steady.{shown_now}
use Rattle.rb_view.proofs.Turning.{fit_lines, noted_lines, on_ok_any, shown_lines, sized_lines, steady_lines}
use Rattle.rb_view.proofs.trace.write_told.Goals as goal

pub tell-requires-clause-steady : goal.tell-requires-clause-steady
tell-requires-clause-steady g c = steady_lines c.args.machine.now c.write_report.new.lines c.write_report.ensures.rest c.requires.steady

pub tell-requires-clause-fit : goal.tell-requires-clause-fit
tell-requires-clause-fit g c =
    fit_lines c.args.machine.now c.write_report.new.lines c.write_report.ensures.rest c.args.names.now c.requires.fit

pub tell-requires-clause-sized : goal.tell-requires-clause-sized
tell-requires-clause-sized g c =
    sized_lines c.args.machine.now c.write_report.new.lines c.write_report.ensures.rest c.args.was.now c.requires.sized

pub returns-in_err-write_report-clause-text : goal.returns-in_err-write_report-clause-text
returns-in_err-write_report-clause-text g c =
    puts_stopped_at _ _ _ _ _ _ _ c.from_residual.result c.from_residual.ensures.0 c.in_err-write_report.ensures.text

pub returns-clause-text : goal.returns-clause-text
returns-clause-text g c =
    let names = naming c.args.names.now in
    let was = c.args.was.now in
    let behind : WorldShown → List ℕ =
    λ shown. back_text c.args.report.now.kind c.args.turn names was shown ++ changes c.args.turn names was shown in
    puts_both _ (behind (shown_now c.args.machine.now)) _ _ _ _ _ _ _ _ c.in_ok-write_report.ensures.text
    (puts_same _ _ _ _ _ _ _ (ap behind (shown_lines c.args.machine.now c.write_report.new.lines c.write_report.ensures.rest)) c.tell.ensures.text)

pub returns-clause-kept : goal.returns-clause-kept
returns-clause-kept g c =
    on_ok_any c.tell.result (c.tell.ensures.kept ∙ noted_lines c.args.machine.now c.write_report.new.lines c.write_report.ensures.rest)
