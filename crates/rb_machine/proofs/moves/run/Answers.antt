-- The turn is counted, and then goes on in the world in which it was.
use Rattle.std.proofs.Common.{ap, sym, ◌∙◌, subst, length, List, Some, option_map, slice_get, position, arith}
use Rattle.std.proofs.lemmas.List.{with_items_is}
use Rattle.std.specs.Vec.{with_items}
use Rattle.rb_world.specs.Turn.{bounded, is_over, turn_used}
use Rattle.rb_world.specs.World.{Process, change_at, with_process}
use Rattle.rb_world.proofs.ListFacts.{slice_get-change_at, slice_get-there}
use Rattle.rb_code.specs.Instructions.Plain.{code as plain}
use Rattle.rb_code.specs.WordMachine.Turn.{Copy, Standing}
use Rattle.rb_code.specs.WordMachine.WordRun.{WordWorld}
use Rattle.rb_conv.specs.Conversations.{memberships}
use Rattle.rb_proc.specs.Process.{Seen}
use Rattle.rb_recovery.specs.Rejections.{changed}
use Rattle.rb_recovery.specs.Parts.{world}
use Rattle.rb_recovery.specs.Work.{enters_there, looking, named_within, undoing}
use Rattle.rb_recovery.specs.Worlds.{NoneWaits, kind_with, processes_of}
use Rattle.rb_machine.proofs.Turning.Ended.{leads_as, leads_from}
use Rattle.rb_machine.proofs.Knowing.CountedTurns.{counted_there, counted_work, counted_world, few_used}
use Rattle.rb_machine.proofs.Working.MoveWork.{counted_undoing, pays_same}
use Rattle.rb_recovery.proofs.Rejecting.QuietProcesses.{waits_at}
use Rattle.rb_recovery.proofs.SeenWorlds.{processes_at}
use Rattle.rb_machine.proofs.moves.run.Goals as goal

pub count-over-requires-clause-few : goal.count-over-requires-clause-few
count-over-requires-clause-few g c one there =
    let parts = c.args.parts.now in
    let here = ap (λ (xs : List Seen). slice_get xs c.args.p) (sym c.deref_mut.ensures.value) ∙ there in
    few_used (plain c.args.code.now) c.args.turn parts.procs.items parts.table parts.mails parts.links.items c.requires.work.work c.args.p one here

pub go_on-requires-clause-work : goal.go_on-requires-clause-work
go_on-requires-clause-work g c =
    let code = plain c.args.code.now in
    let parts = c.args.parts.now in
    let found = slice_get-there parts.procs.items c.args.p c.requires.process in
    let kept = with_items_is parts.procs c.count-over.new.procs (omega (arith, c.count-over.auto.procs, c.deref_mut.ensures.len)) in
    let counted = kept ∙ (c.count-over.ensures.counted ∙ ap (change_at c.args.p (changed turn_used)) c.deref_mut.ensures.value) in
    record {
      work = counted_work code c.args.turn parts.procs.items parts.table parts.mails parts.links.items c.requires.work.work c.args.p found.0 found.1
          _ counted c.requires.turns;
      waits = subst NoneWaits (sym counted) (waits_at c.args.p turn_used parts.procs.items c.requires.work.waits);
    }

pub go_on-requires-clause-running : goal.go_on-requires-clause-running
go_on-requires-clause-running g c one there =
    let code = plain c.args.code.now in
    let parts = c.args.parts.now in
    let found = slice_get-there parts.procs.items c.args.p c.requires.process in
    let kept = with_items_is parts.procs c.count-over.new.procs (omega (arith, c.count-over.auto.procs, c.deref_mut.ensures.len)) in
    let counted = c.count-over.ensures.counted ∙ ap (change_at c.args.p (changed turn_used)) c.deref_mut.ensures.value in
    let is = counted_there code c.args.turn parts.procs.items parts.table parts.mails parts.links.items c.requires.work.work c.args.p found.0 found.1
    c.count-over.new.procs counted one (ap (λ (xs : List Seen). slice_get xs c.args.p) (sym kept) ∙ there) in
    ap (λ (x : Seen). x.process.status) (sym is) ∙ c.requires.running found.0 found.1

pub returns-clause-leads : goal.returns-clause-leads
returns-clause-leads g c one there =
    let code = plain c.args.code.now in
    let parts = c.args.parts.now in
    let procs = parts.procs.items in
    let k = kind_with code parts.table in
    let kept = with_items_is parts.procs c.count-over.new.procs (omega (arith, c.count-over.auto.procs, c.deref_mut.ensures.len)) in
    let counted = kept ∙ (c.count-over.ensures.counted ∙ ap (change_at c.args.p (changed turn_used)) c.deref_mut.ensures.value) in
    let q = turn_used one.process in
    let w = counted_world code c.args.turn procs parts.table parts.mails parts.links.items c.requires.work.work c.args.p one there _ counted in
    let after = with_items parts.procs c.count-over.new.procs in
    leads_from code c.args.turn c.args.p (processes_of after.items) (processes_of procs) c.go_on.new.parts c.go_on.result
    (bounded k c.args.turn c.args.p q (with_process c.args.p (λ _. q) (world parts)) (position is_over q.levels))
    (λ kind events back. ap (λ (qs : List (Process Standing Copy)). undoing kind qs events back)
    (ap processes_of counted ∙ processes_at c.args.p turn_used procs)
    ∙ counted_undoing c.args.p (processes_of procs) kind events back)
    (leads_as code c.args.turn c.args.p (processes_of after.items) c.go_on.new.parts c.go_on.result
    (ap (λ (x : WordWorld). bounded k c.args.turn c.args.p q x (position is_over q.levels)) w)
    (c.go_on.ensures.leads (changed turn_used one)
    (ap (λ (xs : List Seen). slice_get xs c.args.p) counted
    ∙ (slice_get-change_at c.args.p (changed turn_used) procs ∙ ap (option_map (changed turn_used)) there))))

pub returns-clause-stays : goal.returns-clause-stays
returns-clause-stays g c = record {
  table = c.go_on.ensures.stays.table;
  waits = c.go_on.ensures.stays.waits;
  sized = c.go_on.ensures.stays.sized;
}

pub returns-clause-work : goal.returns-clause-work
returns-clause-work g c one there =
    let code = plain c.args.code.now in
    let parts = c.args.parts.now in
    let procs = parts.procs.items in
    let groups = memberships parts.table in
    let k = kind_with code parts.table in
    let kept = with_items_is parts.procs c.count-over.new.procs (omega (arith, c.count-over.auto.procs, c.deref_mut.ensures.len)) in
    let counted = kept ∙ (c.count-over.ensures.counted ∙ ap (change_at c.args.p (changed turn_used)) c.deref_mut.ensures.value) in
    let q = turn_used one.process in
    let w = counted_world code c.args.turn procs parts.table parts.mails parts.links.items c.requires.work.work c.args.p one there _ counted in
    pays_same _ _ _ _ _ _
    (c.go_on.ensures.work (changed turn_used one)
    (ap (λ (xs : List Seen). slice_get xs c.args.p) counted
    ∙ (slice_get-change_at c.args.p (changed turn_used) procs ∙ ap (option_map (changed turn_used)) there)))
    (ap (λ (x : WordWorld). looking (enters_there code (bounded k c.args.turn c.args.p q x (position is_over q.levels)).kind (Some q))) (sym w))
    (ap (λ (x : WordWorld). named_within code groups c.args.turn c.args.p q x (position is_over q.levels)) (sym w))

pub go_on-requires-clause-process : goal.go_on-requires-clause-process
go_on-requires-clause-process g c =
    let parts = c.args.parts.now in
    let kept = with_items_is parts.procs c.count-over.new.procs (omega (arith, c.count-over.auto.procs, c.deref_mut.ensures.len)) in
    omega (arith, c.requires.process, c.count-over.auto.procs, ap length kept, ap length c.deref_mut.ensures.value)
