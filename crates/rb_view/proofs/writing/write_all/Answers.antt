-- What was put back, and then what changed.
use Rattle.std.proofs.Common.{[], map, ap, ◌∙◌}
use Rattle.rb_outside.proofs.Puts.{puts_both, puts_same, puts_stopped_at}
use Rattle.rb_trace.specs.Naming.{process_naming}
use Rattle.rb_changes.specs.Noted.{WorldNoted, shown_with}
use Rattle.rb_view.specs.Noting.{back_shown, noted}
use Rattle.rb_view.proofs.Back.{back_is}
use Rattle.rb_view.proofs.writing.write_all.Goals as goal

pub returns-in_err-write_back : goal.returns-in_err-write_back
returns-in_err-write_back g c =
    let now = c.args.now.now.processes.items in
    puts_stopped_at _ _ _ _ _ _ _ c.from_residual.result c.from_residual.ensures.0
    (puts_same _ _ _ _ _ _ _
    (ap (λ all. back_shown c.args.kind c.args.turn (map process_naming all) (noted c.args.told.now).processes (map (shown_with []) now)) c.deref.ensures.value
    ∙ back_is c.args.kind c.args.turn c.args.names.now (noted c.args.told.now) c.args.machine.now now (ap (λ (n : WorldNoted). n.processes) c.requires.now))
    c.in_err-write_back.ensures)

pub returns : goal.returns
returns g c =
    let now = c.args.now.now.processes.items in
    puts_both _ _ _ _ _ _ _ _ _ _
    (puts_same _ _ _ _ _ _ _
    (ap (λ all. back_shown c.args.kind c.args.turn (map process_naming all) (noted c.args.told.now).processes (map (shown_with []) now)) c.deref.ensures.value
    ∙ back_is c.args.kind c.args.turn c.args.names.now (noted c.args.told.now) c.args.machine.now now (ap (λ (n : WorldNoted). n.processes) c.requires.now))
    c.in_ok-write_back.ensures)
    c.write_changes.ensures
