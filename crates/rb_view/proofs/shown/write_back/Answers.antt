use Rattle.std.proofs.Common.{[], ap, map, sym, ◌∙◌}
use Rattle.rb_base.specs.declared.event.TurnKind.{TurnKind}
use Rattle.rb_outside.proofs.Puts.{puts_same}
use Rattle.rb_trace.specs.Naming.{process_naming}
use Rattle.rb_changes.specs.Changes.{all_back}
use Rattle.rb_changes.specs.Noted.{shown_with}
use Rattle.rb_view.specs.Noting.{back_shown, noted, processes_noted}
use Rattle.rb_view.proofs.shown.write_back.Goals as goal

pub returns-in-Undone : goal.returns-in-Undone
returns-in-Undone g c =
    let names = map process_naming c.args.processes.now in
    puts_same _ _ _ _ _ _ _
    ((λ j. all_back c.args.turn names (processes_noted (c.deref.ensures.value j)) (map (shown_with []) (c.deref-in-Undone.ensures.value j)))
    ∙ ap (λ (kind : TurnKind). back_shown kind c.args.turn names (noted c.args.told.now).processes (map (shown_with []) c.args.now.now.processes.items))
    (sym c.in-Undone.is)) c.write_returns.ensures
