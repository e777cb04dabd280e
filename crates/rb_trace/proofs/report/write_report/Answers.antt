use Rattle.std.proofs.lemmas.Grind.{common_steps}
use Rattle.std.proofs.Common.{◌++◌, true, false, ap, arith}
use Rattle.std.specs.List.{flat_map}
use Rattle.rb_outside.proofs.Puts.{puts_both, puts_same, puts_stopped_at}
use Rattle.rb_world.specs.Text.{out_lines}
use Rattle.rb_trace.specs.Naming.{naming}
use Rattle.rb_trace.specs.Report.{event_if}
use Rattle.rb_trace.proofs.Events.{parts_told}
use Rattle.rb_trace.proofs.report.write_report.Goals as goal

pub returns-in_err-write_events-clause-text : goal.returns-in_err-write_events-clause-text
returns-in_err-write_events-clause-text g c =
    let names = naming c.args.names.now in
    let t = c.args.turn in
    let events = c.args.report.now.events.items in
    let waiting = g.M.Lines.waiting c.args.lines.now in
    puts_same _ _ _ _ _ _ _ (parts_told names t c.args.report.now.kind events waiting)
    (puts_stopped_at (flat_map (event_if names t false) events)
    (out_lines names t 0 waiting ++ flat_map (event_if names t true) events) _ _ _ _ _ c.from_residual.result c.from_residual.ensures.0
    (puts_same _ _ _ _ _ _ _ (ap (flat_map (event_if names t false)) c.deref.ensures.0) c.in_err-write_events.ensures))

pub returns-in_err-write_all_released-clause-text : goal.returns-in_err-write_all_released-clause-text
returns-in_err-write_all_released-clause-text g c =
    let names = naming c.args.names.now in
    let t = c.args.turn in
    let events = c.args.report.now.events.items in
    let waiting = g.M.Lines.waiting c.args.lines.now in
    puts_same _ _ _ _ _ _ _ (parts_told names t c.args.report.now.kind events waiting)
    (puts_both (flat_map (event_if names t false) events)
    (out_lines names t 0 waiting ++ flat_map (event_if names t true) events) _ _ _ _ _ _ _ _
    (puts_same _ _ _ _ _ _ _ (ap (flat_map (event_if names t false)) c.deref.ensures.0) c.in_ok-write_events.ensures)
    (puts_stopped_at (out_lines names t 0 waiting)
    (flat_map (event_if names t true) events) _ _ _ _ _ c.from_residual-in_err-write_all_released.result c.from_residual-in_err-write_all_released.ensures.0 c.in_err-write_all_released.ensures.text))

pub returns-clause-text : goal.returns-clause-text
returns-clause-text g c =
    let names = naming c.args.names.now in
    let t = c.args.turn in
    let events = c.args.report.now.events.items in
    let waiting = g.M.Lines.waiting c.args.lines.now in
    puts_same _ _ _ _ _ _ _ (parts_told names t c.args.report.now.kind events waiting)
    (puts_both (flat_map (event_if names t false) events)
    (out_lines names t 0 waiting ++ flat_map (event_if names t true) events) _ _ _ _ _ _ _ _
    (puts_same _ _ _ _ _ _ _ (ap (flat_map (event_if names t false)) c.deref.ensures.0) c.in_ok-write_events.ensures)
    (puts_both (out_lines names t 0 waiting) (flat_map (event_if names t true) events) _ _ _ _ _ _ _ _ c.in_ok-write_all_released.ensures.text
    (puts_same _ _ _ _ _ _ _ (ap (flat_map (event_if names t true)) c.deref-2.ensures.0) c.write_events-2.ensures)))

pub returns-clause-none_waits : goal.returns-clause-none_waits
returns-clause-none_waits g c = grind (arith, common_steps)
