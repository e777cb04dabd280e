-- The processes that are rejected are those of the parts, and there were no events before.
use Rattle.std.proofs.Common.{subst, sym, ap, ◌∙◌, ◌++◌, List, length, arith}
use Rattle.std.proofs.lemmas.List.{with_items_is}
use Rattle.rb_base.specs.declared.event.Event.{Event}
use Rattle.rb_world.specs.Reject.{reject}
use Rattle.rb_proc.specs.Process.{Seen}
use Rattle.rb_recoverable.proofs.Leaving.{none_there}
use Rattle.rb_recovery.specs.Cascade.{HasHappened, MayRejectAt}
use Rattle.rb_recovery.specs.Parts.{world}
use Rattle.rb_recovery.specs.TestLines.{passes_of}
use Rattle.rb_recovery.specs.Work.{levels_put_back, touched_in}
use Rattle.rb_recovery.specs.Worlds.{NoneWaits, kind_with, memory_of, processes_of, world_of}
use Rattle.rb_machine.proofs.undone.undo.Goals as goal

pub reject-requires-clause-may : goal.reject-requires-clause-may
reject-requires-clause-may g c =
    subst (λ (procs : List Seen). MayRejectAt procs c.args.parts.now.table c.args.p c.args.left) (sym c.deref_mut.ensures.value) c.requires.may

pub returns-clause-moved : goal.returns-clause-moved
returns-clause-moved g c code =
    let parts = c.args.parts.now in
    let memory = memory_of parts.mails parts.links.items in
    let f = reject (kind_with code parts.table) c.args.p c.args.left c.args.cause in
    let h = subst
    (λ (procs : List Seen). HasHappened f memory procs parts.table c.args.events.now.items c.reject.new.procs c.reject.new.table c.reject.new.events.items)
    c.deref_mut.ensures.value (c.reject.ensures.happened code memory) in
    let same = with_items_is parts.procs c.reject.new.procs (omega (arith, c.reject.auto.procs, c.deref_mut.ensures.len)) in
    record {
      worlds = ap (λ (procs : List Seen). world_of procs c.reject.new.table memory) same ∙ h.world;
      kind = c.without_pass.ensures.kind;
      rejections = h.told ∙ ap (λ (events : List Event). events ++ (f (world parts)).1) (none_there c.args.events.now.items c.requires.none);
      passes = ap passes_of c.without_pass.ensures.pass;
    }

pub returns-clause-left : goal.returns-clause-left
returns-clause-left g c code sized =
    let parts = c.args.parts.now in
    let same = with_items_is parts.procs c.reject.new.procs (omega (arith, c.reject.auto.procs, c.deref_mut.ensures.len)) in
    record {
      waits = subst NoneWaits (sym same) c.reject.ensures.waits;
      groups = c.reject.ensures.groups;
      sized = sized;
      few = omega (arith, c.reject.ensures.few, c.requires.none, ap (λ pass. length (passes_of pass)) c.without_pass.ensures.pass);
    }

pub returns-clause-work : goal.returns-clause-work
returns-clause-work g c =
    let parts = c.args.parts.now in
    let same = with_items_is parts.procs c.reject.new.procs (omega (arith, c.reject.auto.procs, c.deref_mut.ensures.len)) in
    let touched = ap (λ (procs : List Seen). touched_in (processes_of procs)) c.deref_mut.ensures.value in
    let first = ap (λ (procs : List Seen). levels_put_back (processes_of procs) c.args.events.now.items) c.deref_mut.ensures.value in
    let none = ap (levels_put_back (processes_of parts.procs.items)) (none_there c.args.events.now.items c.requires.none) in
    let then = ap (λ (procs : List Seen). levels_put_back (processes_of procs) c.reject.new.events.items) c.deref_mut.ensures.value in
    rw (c.without_pass.ensures.kind, same) (omega (arith, c.reject.ensures.work))
