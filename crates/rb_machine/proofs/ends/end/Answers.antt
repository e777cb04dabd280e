-- What is told and released is what the turn of the word machine tells and releases.
use Rattle.std.proofs.Common.{Bool, List, ◌++◌, length, map, ap, sym, ◌∙◌, subst, arith}
use Rattle.std.proofs.lemmas.List.{with_items_is}
use Rattle.std.specs.Vec.{with_items}
use Rattle.rb_world.specs.Turn.{Told, freed, lines_freed}
use Rattle.rb_world.specs.World.{Process}
use Rattle.rb_code.specs.WordMachine.Turn.{Copy, Standing}
use Rattle.rb_code.specs.WordMachine.WordKind.{word_kind}
use Rattle.rb_code.specs.WordMachine.WordRun.{WordWorld}
use Rattle.rb_conv.specs.Conversations.{memberships}
use Rattle.rb_proc.specs.Process.{Seen}
use Rattle.rb_recovery.specs.TestLines.{passes_of}
use Rattle.rb_machine.specs.Telling.{AreFreed, GoesOnThere, WasAlone, ends_told, running_of}
use Rattle.rb_recovery.specs.Work.{releasing}
use Rattle.rb_recovery.specs.Worlds.{NoneWaits, lines_of, processes_of}
use Rattle.rb_machine.proofs.Together.Alone.{no_passes}
use Rattle.rb_machine.proofs.Releasing.Finished.{all_freed}
use Rattle.rb_machine.proofs.Releasing.Quiet.{quiet_alone, quiet_goes_on}
use Rattle.rb_machine.proofs.Turning.TurnOfParts.{few_after, running_after, running_as_many, turns_to, was_alone, works_on}
use Rattle.rb_machine.proofs.ends.end.Goals as goal

pub finish-requires-clause-as_many : goal.finish-requires-clause-as_many
finish-requires-clause-as_many g c =
    let some = c.requires.come in
    ap length c.deref_mut-2.ensures.value
    ∙ running_as_many some.code some.turn c.args.p some.before c.args.parts.now c.args.report.now.events.items c.args.came some.come.moved
    c.args.running.now.items some.come.work.work some.come.noted
    ∙ ap length (sym c.deref_mut.ensures.value)

pub finish-requires-clause-numbered : goal.finish-requires-clause-numbered
finish-requires-clause-numbered g c =
    let some = c.requires.come in
    let few = few_after some.code some.turn c.args.p some.before c.args.parts.now c.args.report.now.events.items c.args.came some.come.moved
    some.come.work.work in
    omega (arith, few, ap length c.deref_mut.ensures.value)

pub finish-requires-clause-room : goal.finish-requires-clause-room
finish-requires-clause-room g c =
    let some = c.requires.come in
    let few = few_after some.code some.turn c.args.p some.before c.args.parts.now c.args.report.now.events.items c.args.came some.come.moved
    some.come.work.work in
    omega (arith, few, ap length c.deref_mut.ensures.value, some.come.left.few)

pub finish-requires-clause-waits : goal.finish-requires-clause-waits
finish-requires-clause-waits g c = subst NoneWaits (sym c.deref_mut.ensures.value) c.requires.come.come.left.waits

pub finish-requires-clause-alone : goal.finish-requires-clause-alone
finish-requires-clause-alone g c e =
    let some = c.requires.come in
    let came = c.args.came in
    let alone = sym c.is_alone-alone.ensures ∙ e in (
      no_passes came.kind (passes_of came.pass) alone,
      subst (λ (ran : List Bool). WasAlone c.args.p ran (processes_of c.deref_mut.result.now)) (sym c.deref_mut-2.ensures.value)
          (subst (λ (procs : List Seen). WasAlone c.args.p c.args.running.now.items (processes_of procs)) (sym c.deref_mut.ensures.value)
          (was_alone some.code some.turn c.args.p some.before c.args.parts.now c.args.report.now.events.items came some.come.moved c.args.running.now.items
          some.come.noted some.come.freed alone)),
    )

pub finish-requires-clause-quiet : goal.finish-requires-clause-quiet
finish-requires-clause-quiet g c e =
    let some = c.requires.come in
    let came = c.args.came in
    let quiet = some.come.quiet e in
    let goes = quiet_goes_on some.before.procs.items c.args.parts.now.procs.items c.args.p c.args.running.now.items came some.come.noted
    (running_as_many some.code some.turn c.args.p some.before c.args.parts.now c.args.report.now.events.items came some.come.moved c.args.running.now.items
    some.come.work.work some.come.noted)
    (some.come.ran e) quiet in (
      c.is_alone-alone.ensures ∙ quiet_alone came.kind (passes_of came.pass) quiet.kind quiet.none,
      subst (λ (ran : List Bool). GoesOnThere ran c.deref_mut.result.now c.args.p) (sym c.deref_mut-2.ensures.value)
          (subst (λ (xs : List Seen). GoesOnThere c.args.running.now.items xs c.args.p) (sym c.deref_mut.ensures.value) goes),
    )

pub returns-clause-finished : goal.returns-clause-finished
returns-clause-finished g c = λ code t before come.
    let now = c.args.parts.now in
    let came = c.args.came in
    let events = c.args.report.now.events.items in
    let groups = memberships before.table in
    let freed_of = λ (q : Process Standing Copy). lines_freed (word_kind code groups) q.state q.levels in
    let is = with_items_is now.procs c.finish.new.procs (omega (arith, c.finish.auto.procs, c.deref_mut.ensures.len)) in
    let noted = with_items_is c.args.running.now c.finish.new.running (omega (arith, c.finish.auto.running, c.deref_mut-2.ensures.len)) in
    let free = ap processes_of is ∙ (c.finish.ensures.processes code groups
    ∙ ap (λ (procs : List Seen). map (freed (word_kind code groups)) (processes_of procs)) c.deref_mut.ensures.value) in
    let turned = turns_to code t c.args.p before now events came come.moved c.finish.new.events.items (with_items now.procs c.finish.new.procs).items
    (c.finish.ensures.told (processes_of before.procs.items) (sym come.noted ∙ sym c.deref_mut-2.ensures.value)
    ∙ ap (λ (procs : List Seen). events ++ ends_told (processes_of before.procs.items) (processes_of procs) came.pass) c.deref_mut.ensures.value)
    free
    (ap lines_of is ∙ (c.finish.ensures.lines code groups
    ∙ ap (λ (procs : List Seen). map freed_of (processes_of procs)) c.deref_mut.ensures.value)) in
    record {
      turned = turned;
      groups = come.left.groups;
      at_work = works_on code t c.args.p before now events came _ come.work.work come.left come.turns
          (ap (λ (pair : WordWorld × Told). pair.0) turned);
      running_is = noted ∙ running_after code groups now.procs.items _ c.finish.new.running free
          (c.finish.ensures.running ∙ ap (λ (procs : List Seen). running_of (processes_of procs)) c.deref_mut.ensures.value);
      freed = subst AreFreed (sym (ap processes_of is ∙ c.finish.ensures.processes code groups)) (all_freed code groups _);
      none_waits = λ e. subst NoneWaits (sym is) (c.finish.ensures.none_waits e);
    }

pub returns-clause-work : goal.returns-clause-work
returns-clause-work g c =
    let is = with_items_is c.args.parts.now.procs c.finish.new.procs (omega (arith, c.finish.auto.procs, c.deref_mut.ensures.len)) in
    omega (arith, c.finish.ensures.work, ap (λ (procs : List Seen). releasing (lines_of procs)) is)
