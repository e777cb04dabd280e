-- Quietly, by process p alone, or by all.
use Rattle.std.proofs.Common.{List, ◌++◌, ap, sym, ◌∙◌}
use Rattle.std.proofs.lemmas.Option.{get_or_from_slice_get}
use Rattle.rb_base.specs.declared.event.Event.{Event}
use Rattle.rb_world.proofs.ListFacts.{slice_get-there}
use Rattle.rb_recovery.specs.Worlds.{processes_of}
use Rattle.rb_machine.proofs.Releasing.Finished.{noted_same, released_same, told_as, told_none}
use Rattle.rb_machine.proofs.Releasing.Released.{lines_of_freed, processes_freed}
use Rattle.rb_machine.proofs.telling.finish.Goals as goal

pub returns-then-came-clause-told : goal.returns-then-came-clause-told
returns-then-came-clause-told g c before ran =
    let procs = c.args.procs.now in
    let h = c.requires.quiet c.if-came.true in
    let alone = c.requires.alone h.0 in
    let one = slice_get-there procs c.args.p h.1.there in
    let read = get_or_from_slice_get procs c.args.p one.0 one.0 one.1 in
    told_none c.args.p c.args.running.now procs alone.1 one.0 h.1.there (sym read) h.1 c.requires.as_many c.args.events.now.items
    ∙ ap (λ (more : List Event). c.args.events.now.items ++ more)
    (told_as c.args.running.now before (processes_of procs) c.args.came.pass ran alone.0)

pub returns-then-came-clause-running : goal.returns-then-came-clause-running
returns-then-came-clause-running g c =
    let procs = c.args.procs.now in
    let h = c.requires.quiet c.if-came.true in
    let alone = c.requires.alone h.0 in
    let one = slice_get-there procs c.args.p h.1.there in
    let read = get_or_from_slice_get procs c.args.p one.0 one.0 one.1 in
    noted_same c.args.p c.args.running.now procs alone.1 one.0 h.1.there (sym read) h.1

pub returns-then-came-clause-processes : goal.returns-then-came-clause-processes
returns-then-came-clause-processes g c code groups =
    let procs = c.args.procs.now in
    let h = c.requires.quiet c.if-came.true in
    let alone = c.requires.alone h.0 in
    let one = slice_get-there procs c.args.p h.1.there in
    let read = get_or_from_slice_get procs c.args.p one.0 one.0 one.1 in
    processes_freed code groups procs procs
    (released_same c.args.p c.args.running.now procs alone.1 one.0 h.1.there (sym read) h.1 code c.requires.waits)

pub returns-then-came-clause-lines : goal.returns-then-came-clause-lines
returns-then-came-clause-lines g c code groups =
    let procs = c.args.procs.now in
    let h = c.requires.quiet c.if-came.true in
    let alone = c.requires.alone h.0 in
    let one = slice_get-there procs c.args.p h.1.there in
    let read = get_or_from_slice_get procs c.args.p one.0 one.0 one.1 in
    lines_of_freed code groups procs procs
    (released_same c.args.p c.args.running.now procs alone.1 one.0 h.1.there (sym read) h.1 code c.requires.waits)

pub finish_one-requires-clause-alone : goal.finish_one-requires-clause-alone
finish_one-requires-clause-alone g c = (c.requires.alone c.if-alone.true).1

pub returns-then-alone-clause-told : goal.returns-then-alone-clause-told
returns-then-alone-clause-told g c before ran =
    c.finish_one.ensures.told
    ∙ ap (λ (more : List Event). c.args.events.now.items ++ more)
    (told_as c.args.running.now before (processes_of c.args.procs.now) c.args.came.pass ran (c.requires.alone c.if-alone.true).0)

pub returns-then-alone-clause-processes : goal.returns-then-alone-clause-processes
returns-then-alone-clause-processes g c code groups =
    processes_freed code groups c.args.procs.now c.finish_one.new.procs (c.finish_one.ensures.freed code)

pub returns-then-alone-clause-lines : goal.returns-then-alone-clause-lines
returns-then-alone-clause-lines g c code groups =
    lines_of_freed code groups c.args.procs.now c.finish_one.new.procs (c.finish_one.ensures.freed code)
