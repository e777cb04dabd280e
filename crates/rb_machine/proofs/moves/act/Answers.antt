-- What the process is ready for is what it does.
use Rattle.std.proofs.Common.{◌+◌, List, ap, sym, subst, refl}
use Rattle.rb_world.specs.Turn.{Moved}
use Rattle.rb_code.specs.Instructions.Plain.{code as plain}
use Rattle.rb_code.specs.WordMachine.Turn.{Common, Copy, Standing}
use Rattle.rb_proc.specs.Process.{Seen}
use Rattle.rb_recovery.specs.Channels.{AreNumbered, NoneFell}
use Rattle.rb_recovery.specs.Innermost.{WantsThere}
use Rattle.rb_ready.specs.Readiness.{IsEntryReady, IsReadyAt, ReceivesThere}
use Rattle.rb_recovery.specs.Work.{is_kept}
use Rattle.rb_recovery.specs.Worlds.{memory_of, processes_of}
use Rattle.rb_machine.proofs.Turning.Ended.{leads_as}
use Rattle.rb_machine.proofs.Working.MoveWork.{looks_stepping, looks_unkept, pays_entry, pays_step, pays_waiting}
use Rattle.rb_machine.proofs.Knowing.KnownNumbers.{numbered_at_work}
use Rattle.rb_machine.proofs.Passing.ChannelsLooked.{none_fell}
use Rattle.rb_machine.proofs.Turning.ReadyFor.{next_read, receives_there, wants_read}
use Rattle.rb_machine.proofs.moves.act.Goals as goal

pub want_next-wanted-requires : goal.want_next-wanted-requires
want_next-wanted-requires g c =
    let parts = c.args.parts.now in
    next_read (plain c.args.code.now) (c.args.turn + 1) parts.procs.items parts.table parts.mails parts.links.items c.requires.work.work
    c.args.p c.index.result.now c.requires.process c.index.ensures c.requires.acting

pub ready-requires-clause-numbered : goal.ready-requires-clause-numbered
ready-requires-clause-numbered g c =
    let code = plain c.args.code.now in
    let parts = c.args.parts.now in
    subst (AreNumbered code) (sym c.deref.ensures.value)
    (numbered_at_work code (c.args.turn + 1) parts.procs.items parts.table parts.mails parts.links.items c.requires.work.work)

pub ready-requires-clause-risen : goal.ready-requires-clause-risen
ready-requires-clause-risen g c =
    let code = plain c.args.code.now in
    let parts = c.args.parts.now in
    subst (NoneFell code) (sym c.deref.ensures.value)
    (none_fell code (c.args.turn + 1) parts.procs.items parts.table parts.mails parts.links.items c.requires.work.work)

pub ready-requires-clause-receiver : goal.ready-requires-clause-receiver
ready-requires-clause-receiver g c =
    let code = plain c.args.code.now in
    let parts = c.args.parts.now in
    subst (λ (xs : List Seen). ReceivesThere code xs c.args.p) (sym c.deref.ensures.value)
    (receives_there code (c.args.turn + 1) parts.procs.items parts.table parts.mails parts.links.items c.requires.work.work c.args.p
    c.requires.acting)

pub ready-requires-clause-wanted : goal.ready-requires-clause-wanted
ready-requires-clause-wanted g c =
    let code = plain c.args.code.now in
    subst (λ (xs : List Seen). WantsThere code xs c.args.p c.want_next-wanted.result) (sym c.deref.ensures.value)
    (wants_read code c.args.parts.now.procs.items c.args.p c.index.result.now c.want_next-wanted.result c.requires.process c.index.ensures
    c.want_next-wanted.ensures)

pub take_step-requires-clause-step : goal.take_step-requires-clause-step
take_step-requires-clause-step g c one there =
    let code = plain c.args.code.now in
    let parts = c.args.parts.now in
    let at = subst (λ (xs : List Seen). IsReadyAt code xs parts.mails c.args.p c.ready.result) c.deref.ensures.value c.ready.ensures.ready in
    let fit = subst (IsReadyAt code parts.procs.items parts.mails c.args.p) c.in-Steps.is at in
    (fit one parts.table (memory_of parts.mails parts.links.items).links c.args.turn there).0

pub take_step-requires-clause-wanted : goal.take_step-requires-clause-wanted
take_step-requires-clause-wanted g c =
    wants_read (plain c.args.code.now) c.args.parts.now.procs.items c.args.p c.index.result.now c.want_next-wanted.result c.requires.process c.index.ensures
    c.want_next-wanted.ensures

pub returns-in-Idle-clause-leads : goal.returns-in-Idle-clause-leads
returns-in-Idle-clause-leads g c one there =
    let code = plain c.args.code.now in
    let parts = c.args.parts.now in
    let at = subst (λ (xs : List Seen). IsReadyAt code xs parts.mails c.args.p c.ready.result) c.deref.ensures.value c.ready.ensures.ready in
    let fit = subst (IsReadyAt code parts.procs.items parts.mails c.args.p) c.in-Idle.is at in
    fit one parts.table (memory_of parts.mails parts.links.items).links c.args.turn there

pub returns-in-Waits-clause-leads : goal.returns-in-Waits-clause-leads
returns-in-Waits-clause-leads g c one there =
    let code = plain c.args.code.now in
    let parts = c.args.parts.now in
    let at = subst (λ (xs : List Seen). IsReadyAt code xs parts.mails c.args.p c.ready.result) c.deref.ensures.value c.ready.ensures.ready in
    let fit = subst (IsReadyAt code parts.procs.items parts.mails c.args.p) c.in-Waits.is at in
    fit one parts.table (memory_of parts.mails parts.links.items).links c.args.turn there

pub returns-in-Enters-clause-leads : goal.returns-in-Enters-clause-leads
returns-in-Enters-clause-leads g c one there =
    let code = plain c.args.code.now in
    let parts = c.args.parts.now in
    let at = subst (λ (xs : List Seen). IsReadyAt code xs parts.mails c.args.p c.ready.result) c.deref.ensures.value c.ready.ensures.ready in
    let fit = subst (IsReadyAt code parts.procs.items parts.mails c.args.p) c.in-Enters.is at in
    record {
      one = one;
      there = there;
      work = c.requires.work;
      acting = c.requires.acting;
      wants = fit one parts.table (memory_of parts.mails parts.links.items).links c.args.turn there;
      room = c.requires.room;
      moves = refl;
      costs = λ kind events after. refl;
    }

pub returns-in-Steps-clause-leads : goal.returns-in-Steps-clause-leads
returns-in-Steps-clause-leads g c one there =
    let code = plain c.args.code.now in
    let parts = c.args.parts.now in
    let at = subst (λ (xs : List Seen). IsReadyAt code xs parts.mails c.args.p c.ready.result) c.deref.ensures.value c.ready.ensures.ready in
    let fit = subst (IsReadyAt code parts.procs.items parts.mails c.args.p) c.in-Steps.is at in
    leads_as code c.args.turn c.args.p (processes_of parts.procs.items) c.take_step.new.parts c.take_step.result
    (sym (fit one parts.table (memory_of parts.mails parts.links.items).links c.args.turn there).1) (c.take_step.ensures.leads one there)

pub returns-in-Idle-clause-stays : goal.returns-in-Idle-clause-stays
returns-in-Idle-clause-stays g c = record { table = refl; waits = c.requires.work.waits; sized = c.requires.work.work.sized }

pub returns-in-Waits-clause-stays : goal.returns-in-Waits-clause-stays
returns-in-Waits-clause-stays g c = record { table = refl; waits = c.requires.work.waits; sized = c.requires.work.work.sized }

pub returns-in-Enters-clause-stays : goal.returns-in-Enters-clause-stays
returns-in-Enters-clause-stays g c = record { table = refl; waits = c.requires.work.waits; sized = c.requires.work.work.sized }

pub returns-in-Idle-clause-work : goal.returns-in-Idle-clause-work
returns-in-Idle-clause-work g c one there =
    pays_waiting _ _ _ _ c.ready.ensures.work
    (looks_unkept (plain c.args.code.now) one.process _
    (ap (λ (moved : Moved Standing Copy Common). is_kept moved.kind) (returns-in-Idle-clause-leads g c one there)))

pub returns-in-Waits-clause-work : goal.returns-in-Waits-clause-work
returns-in-Waits-clause-work g c one there =
    pays_waiting _ _ _ _ c.ready.ensures.work
    (looks_unkept (plain c.args.code.now) one.process _
    (ap (λ (moved : Moved Standing Copy Common). is_kept moved.kind) (returns-in-Waits-clause-leads g c one there)))

pub returns-in-Enters-clause-work : goal.returns-in-Enters-clause-work
returns-in-Enters-clause-work g c one there =
    pays_entry _ _ _ _ (c.ready.ensures.entry (subst IsEntryReady (sym c.in-Enters.is) tt))

pub returns-in-Steps-clause-work : goal.returns-in-Steps-clause-work
returns-in-Steps-clause-work g c one there =
    let code = plain c.args.code.now in
    let parts = c.args.parts.now in
    let at = subst (λ (xs : List Seen). IsReadyAt code xs parts.mails c.args.p c.ready.result) c.deref.ensures.value c.ready.ensures.ready in
    let fit = subst (IsReadyAt code parts.procs.items parts.mails c.args.p) c.in-Steps.is at in
    let ready = fit one parts.table (memory_of parts.mails parts.links.items).links c.args.turn there in
    pays_step _ _ _ _ _ _ _ c.ready.ensures.work (c.take_step.ensures.work one there)
    (looks_stepping code one.process _ c.in-Steps.message ready.0) ready.2
