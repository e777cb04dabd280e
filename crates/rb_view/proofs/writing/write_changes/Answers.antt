-- What changed of processes, of channels and of conversations, one after another.
use Rattle.std.proofs.Common.{List, ap, map, sym, ◌∙◌, subst, ◌≡◌}
use Rattle.std.specs.List.{AllZip}
use Rattle.rb_base.specs.declared.names.ProcessNames.{ProcessNames}
use Rattle.rb_code.specs.Instructions.Plain.{Part}
use Rattle.rb_code.specs.Instructions.Variables.{VariablesLie}
use Rattle.rb_outside.proofs.Puts.{puts_both, puts_same, puts_stopped_at}
use Rattle.rb_trace.specs.Naming.{process_naming}
use Rattle.rb_world.specs.World.{Talk}
use Rattle.rb_changes.specs.Changes.{all_channels, all_processes, all_talks}
use Rattle.rb_changes.specs.Noted.{WorldNoted}
use Rattle.rb_changes.specs.declared.noted.ProcessWas.{ProcessWas}
use Rattle.rb_view.specs.Noting.{AreReady, noted, processes_noted, talks_noted, words_long}
use Rattle.rb_view.specs.Steady.{shown_now}
use Rattle.rb_view.proofs.writing.write_changes.Goals as goal

pub write_processes-requires-clause-fit : goal.write_processes-requires-clause-fit
write_processes-requires-clause-fit g c =
    subst (λ (all : List ProcessNames). AllZip VariablesLie all c.args.machine.now.code.processes) (sym c.deref.ensures.value) c.requires.fit.processes

pub write_processes-requires-clause-sized : goal.write_processes-requires-clause-sized
write_processes-requires-clause-sized g c =
    subst (λ (all : List ProcessWas). map words_long (processes_noted all) ≡ map (λ (part : Part). part.words) c.args.machine.now.code.processes)
    (sym c.deref-2.ensures.value) c.requires.sized.processes

pub write_processes-requires-clause-told : goal.write_processes-requires-clause-told
write_processes-requires-clause-told g c = subst AreReady (sym c.deref-2.ensures.value) c.requires.told

pub write_processes-requires-clause-ready : goal.write_processes-requires-clause-ready
write_processes-requires-clause-ready g c = subst AreReady (sym c.deref-3.ensures.value) c.requires.ready

pub write_processes-requires-clause-now : goal.write_processes-requires-clause-now
write_processes-requires-clause-now g c =
    ap processes_noted c.deref-3.ensures.value ∙ ap (λ (n : WorldNoted). n.processes) c.requires.now

pub returns-in_err-write_processes : goal.returns-in_err-write_processes
returns-in_err-write_processes g c =
    let m = c.args.machine.now in
    puts_stopped_at _ _ _ _ _ _ _ c.from_residual.result c.from_residual.ensures.0
    (puts_same _ _ _ _ _ _ _
    (λ j. all_processes c.args.turn (map process_naming (c.deref.ensures.value j)) (processes_noted (c.deref-2.ensures.value j)) (shown_now m).processes) c.in_err-write_processes.ensures)

pub write_channels-requires-clause-now : goal.write_channels-requires-clause-now
write_channels-requires-clause-now g c = c.deref-6.ensures.value ∙ ap (λ (n : WorldNoted). n.channels) c.requires.now

pub returns-in_err-write_channels : goal.returns-in_err-write_channels
returns-in_err-write_channels g c =
    let m = c.args.machine.now in
    puts_both _ _ _ _ _ _ _ _ _ _
    (puts_same _ _ _ _ _ _ _
    (λ j. all_processes c.args.turn (map process_naming (c.deref.ensures.value j)) (processes_noted (c.deref-2.ensures.value j)) (shown_now m).processes) c.in_ok-write_processes.ensures)
    (puts_stopped_at _ _ _ _ _ _ _ c.from_residual-in_err-write_channels.result c.from_residual-in_err-write_channels.ensures.0
    (puts_same _ _ _ _ _ _ _
    (λ j. all_channels c.args.turn (c.deref-4.ensures.value j) (c.deref-5.ensures.value j) (shown_now m).channels) c.in_err-write_channels.ensures))

pub returns : goal.returns
returns g c =
    let m = c.args.machine.now in
    puts_both _ _ _ _ _ _ _ _ _ _
    (puts_same _ _ _ _ _ _ _
    (λ j. all_processes c.args.turn (map process_naming (c.deref.ensures.value j)) (processes_noted (c.deref-2.ensures.value j)) (shown_now m).processes) c.in_ok-write_processes.ensures)
    (puts_both _ _ _ _ _ _ _ _ _ _
    (puts_same _ _ _ _ _ _ _
    (λ j. all_channels c.args.turn (c.deref-4.ensures.value j) (c.deref-5.ensures.value j) (shown_now m).channels) c.in_ok-write_channels.ensures)
    (puts_same _ _ _ _ _ _ _
    ((λ j. all_talks c.args.turn (c.deref-7.ensures.value j) (talks_noted (c.deref-8.ensures.value j)) (talks_noted (c.deref-9.ensures.value j)))
    ∙ ap (λ (talks : List Talk). all_talks c.args.turn c.args.names.now.conversations.items (noted c.args.told.now).talks talks)
    (ap (λ (n : WorldNoted). n.talks) c.requires.now))
    c.write_talks.ensures))
