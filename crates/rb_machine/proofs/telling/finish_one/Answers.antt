-- What is looked at of one process is all that there is to see.
use Rattle.std.proofs.Common.{◌++◌, List, get_or, false, ap, sym, ◌∙◌, arith}
use Rattle.rb_base.specs.declared.event.Event.{Event}
use Rattle.rb_world.specs.World.{ProcessStatus}
use Rattle.rb_proc.specs.Process.{Seen}
use Rattle.rb_machine.specs.Telling.{ended_if, freed_one, is_running}
use Rattle.rb_machine.specs.declared.telling.Ending.TheVariants as ending
use Rattle.rb_machine.proofs.Releasing.Finished.{none_after, noted_beyond, noted_here, released_beyond, released_here, told_beyond, told_here}
use Rattle.rb_machine.proofs.Working.ReleaseWork.{one_releases}
use Rattle.rb_machine.proofs.telling.finish_one.Goals as goal

pub returns-then-place-procs-clause-told : goal.returns-then-place-procs-clause-told
returns-then-place-procs-clause-told g c =
    told_beyond c.args.p c.args.running.now c.args.procs.now c.requires.alone c.if-place-procs.true c.args.events.now.items

pub returns-then-place-procs-clause-running : goal.returns-then-place-procs-clause-running
returns-then-place-procs-clause-running g c =
    noted_beyond c.args.p c.args.running.now c.args.procs.now c.requires.alone c.if-place-procs.true

pub returns-then-place-procs-clause-freed : goal.returns-then-place-procs-clause-freed
returns-then-place-procs-clause-freed g c code =
    released_beyond c.args.p c.args.running.now c.args.procs.now c.requires.alone c.if-place-procs.true code c.requires.waits

pub returns-clause-told : goal.returns-clause-told
returns-clause-told g c =
    let p = c.args.p in
    let ran = get_or c.args.running.now p false in
    let told : ProcessStatus → List Event = λ status. ended_if ending.Failed p ran status ++ ended_if ending.Done p ran status in
    c.note_end.ensures.told
    ∙ told_here p c.args.running.now c.args.procs.now c.requires.alone c.index-procs-place.result c.if-place-procs.false c.index-procs-place.is
    c.requires.as_many c.args.events.now.items (told (get_or c.args.procs.now p c.index-procs-place.result).process.status)
    (ap (λ (one : Seen). told one.process.status) (sym c.index-procs-place.is))

pub returns-clause-running : goal.returns-clause-running
returns-clause-running g c =
    c.note_end.ensures.running
    ∙ noted_here c.args.p c.args.running.now c.args.procs.now c.requires.alone c.index-procs-place.result c.if-place-procs.false
    c.index-procs-place.is (is_running (get_or c.args.procs.now c.args.p c.index-procs-place.result).process.status)
    (ap (λ (one : Seen). is_running one.process.status) (sym c.index-procs-place.is))

pub returns-clause-freed : goal.returns-clause-freed
returns-clause-freed g c code =
    released_here c.args.p c.args.running.now c.args.procs.now c.requires.alone c.index-procs-place-2.result c.if-place-procs.false
    c.index-procs-place-2.is code c.release_one.new.proc c.requires.waits
    (c.release_one.ensures.freed code ∙ ap (freed_one code) (sym c.index-procs-place-2.is))

pub returns-clause-none_waits : goal.returns-clause-none_waits
returns-clause-none_waits g c e = none_after c.args.p c.args.procs.now c.release_one.new.proc c.requires.waits (c.release_one.ensures.none_waits e)

pub returns-clause-work : goal.returns-clause-work
returns-clause-work g c =
    omega (arith, c.release_one.ensures.work, one_releases c.args.procs.now c.args.p c.release_one.new.proc c.if-place-procs.false)
