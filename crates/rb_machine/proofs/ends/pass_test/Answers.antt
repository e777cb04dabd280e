-- The acceptance leads to where the turn leads.
use Rattle.std.proofs.Common.{true, false, ◌+◌, ◌*◌, ◌<◌, ◌≤◌, List, ap, sym, ◌∙◌, subst, refl, length, slice_get, arith}
use Rattle.std.proofs.lemmas.List.{with_items_is}
use Rattle.std.proofs.lemmas.Option.{slice_get_within}
use Rattle.rb_base.specs.declared.event.TurnKind.TheVariants.{Took}
use Rattle.rb_code.specs.Instructions.Plain.{code as plain}
use Rattle.rb_world.specs.Standing.{Each}
use Rattle.rb_world.specs.Turn.{accepted}
use Rattle.rb_world.specs.World.{last_of}
use Rattle.rb_world.proofs.ListFacts.{some_same}
use Rattle.rb_conv.specs.Conversations.{memberships}
use Rattle.rb_proc.specs.Process.{Seen}
use Rattle.rb_recoverable.proofs.Leaving.{none_there}
use Rattle.rb_recovery.specs.Channels.{conversation_in}
use Rattle.rb_recovery.specs.TestLines.{HasTaken, HoldsTest, IsListed, MayLeave}
use Rattle.rb_machine.specs.Telling.{IsQuiet}
use Rattle.rb_recovery.specs.Work.{named_accepted}
use Rattle.rb_recovery.specs.Worlds.{NoneWaits, kind_with, memory_of, world_of}
use Rattle.rb_machine.proofs.Turning.Ended.{accept_comes, accept_names, has_ended}
use Rattle.rb_machine.proofs.ends.pass_test.Goals as goal

pub accept-pass-requires-clause-code : goal.accept-pass-requires-clause-code
accept-pass-requires-clause-code g c = c.requires.way.1.way.leads.executable

pub accept-pass-requires-clause-process : goal.accept-pass-requires-clause-process
accept-pass-requires-clause-process g c =
    let leads = c.requires.way.1.way.leads in
    subst (λ (xs : List Seen). c.args.p < length xs) (sym c.deref_mut.ensures.value)
    (slice_get_within c.args.parts.now.procs.items c.args.p leads.one leads.there)

pub accept-pass-requires-clause-waits : goal.accept-pass-requires-clause-waits
accept-pass-requires-clause-waits g c = subst NoneWaits (sym c.deref_mut.ensures.value) c.requires.way.1.way.stays.waits

pub accept-pass-requires-clause-holds : goal.accept-pass-requires-clause-holds
accept-pass-requires-clause-holds g c one there =
    let leads = c.requires.way.1.way.leads in
    let here = ap (λ (xs : List Seen). slice_get xs c.args.p) (sym c.deref_mut.ensures.value) ∙ there in
    subst (HoldsTest (plain c.args.code.now)) (some_same (sym leads.there ∙ here)) leads.holds

pub accept-pass-requires-clause-listed : goal.accept-pass-requires-clause-listed
accept-pass-requires-clause-listed g c one there =
    let leads = c.requires.way.1.way.leads in
    let here = ap (λ (xs : List Seen). slice_get xs c.args.p) (sym c.deref_mut.ensures.value) ∙ there in
    subst (λ (x : Seen). IsListed (length c.args.parts.now.table) (conversation_in (last_of x.process.levels)))
    (some_same (sym leads.there ∙ here)) leads.listed

pub accept-pass-requires-clause-leave : goal.accept-pass-requires-clause-leave
accept-pass-requires-clause-leave g c =
    subst (Each (MayLeave (plain c.args.code.now))) (sym c.deref_mut.ensures.value) c.requires.way.1.way.leads.leave

pub end-requires : goal.end-requires
end-requires g c =
    let code = plain c.args.code.now in
    let now = c.args.parts.now in
    let w = c.requires.way in
    let way = w.1.way in
    let leads = way.leads in
    let memory = memory_of now.mails now.links.items in
    let lent = ap (λ (xs : List Seen). slice_get xs c.args.p) c.deref_mut.ensures.value ∙ leads.there in
    let takes = subst (λ (xs : List Seen). HasTaken memory c.accept-pass.new.procs c.accept-pass.new.table c.accept-pass.result
    (accepted (kind_with code now.table) c.args.p leads.one.process.levels (last_of leads.one.process.levels) (world_of xs now.table memory)
    (leads.one.process.state, memory))) c.deref_mut.ensures.value (c.accept-pass.ensures.taken leads.one memory lent) in
    let q = subst (λ (xs : List Seen). IsQuiet (record { kind = Took; pass = c.accept-pass.result; quiet = c.ends_quietly.result }) xs c.args.p)
    c.deref.ensures.value (c.ends_quietly.ensures c.if-ends_quietly.true) in
    record {
      come = record {
        code = code;
        turn = w.0;
        before = w.1.before;
        come = accept_comes code w.0 c.args.p w.1.before now c.args.running.now.items way c.accept-pass.new.procs c.accept-pass.new.table _
            c.accept-pass.result true c.args.report.now.events.items (none_there c.args.report.now.events.items c.requires.none)
            (with_items_is now.procs c.accept-pass.new.procs (omega (arith, c.accept-pass.auto.procs, c.deref_mut.ensures.len))) refl refl
            way.stays.sized takes c.accept-pass.ensures.waits c.accept-pass.ensures.groups
            (λ e. record { kind = q.kind; none = q.none; goes_on = q.goes_on });
      };
    }

pub end-requires-else-ends_quietly : goal.end-requires-else-ends_quietly
end-requires-else-ends_quietly g c =
    let code = plain c.args.code.now in
    let now = c.args.parts.now in
    let w = c.requires.way in
    let way = w.1.way in
    let leads = way.leads in
    let memory = memory_of now.mails now.links.items in
    let lent = ap (λ (xs : List Seen). slice_get xs c.args.p) c.deref_mut.ensures.value ∙ leads.there in
    let takes = subst (λ (xs : List Seen). HasTaken memory c.accept-pass.new.procs c.accept-pass.new.table c.accept-pass.result
    (accepted (kind_with code now.table) c.args.p leads.one.process.levels (last_of leads.one.process.levels) (world_of xs now.table memory)
    (leads.one.process.state, memory))) c.deref_mut.ensures.value (c.accept-pass.ensures.taken leads.one memory lent) in
    record {
      come = record {
        code = code;
        turn = w.0;
        before = w.1.before;
        come = accept_comes code w.0 c.args.p w.1.before now c.args.running.now.items way c.accept-pass.new.procs c.accept-pass.new.table _
            c.accept-pass.result false c.args.report.now.events.items (none_there c.args.report.now.events.items c.requires.none)
            (with_items_is now.procs c.accept-pass.new.procs (omega (arith, c.accept-pass.auto.procs, c.deref_mut.ensures.len))) refl refl
            way.stays.sized takes c.accept-pass.ensures.waits c.accept-pass.ensures.groups
            (λ e. absurd (cc));
      };
    }

pub returns-then-ends_quietly-clause-ended : goal.returns-then-ends_quietly-clause-ended
returns-then-ends_quietly-clause-ended g c = λ t before way.
    let code = plain c.args.code.now in
    let now = c.args.parts.now in
    let leads = way.leads in
    let memory = memory_of now.mails now.links.items in
    let lent = ap (λ (xs : List Seen). slice_get xs c.args.p) c.deref_mut.ensures.value ∙ leads.there in
    let takes = subst (λ (xs : List Seen). HasTaken memory c.accept-pass.new.procs c.accept-pass.new.table c.accept-pass.result
    (accepted (kind_with code now.table) c.args.p leads.one.process.levels (last_of leads.one.process.levels) (world_of xs now.table memory)
    (leads.one.process.state, memory))) c.deref_mut.ensures.value (c.accept-pass.ensures.taken leads.one memory lent) in
    let names = subst (λ (xs : List Seen). c.accept-pass.new.steps
    ≤ c.args.steps.now
    + 3 * named_accepted code (memberships now.table) c.args.p leads.one.process.levels (last_of leads.one.process.levels)
    (world_of xs now.table memory) leads.one.process.state) c.deref_mut.ensures.value (c.accept-pass.ensures.work leads.one memory lent) in
    let q = subst (λ (xs : List Seen). IsQuiet (record { kind = Took; pass = c.accept-pass.result; quiet = c.ends_quietly.result }) xs c.args.p)
    c.deref.ensures.value (c.ends_quietly.ensures c.if-ends_quietly.true) in
    has_ended code t c.args.p before now c.args.running.now.items c.args.steps.now c.accept-pass.new.steps _ c.end.ensures.finished
    (accept_comes code t c.args.p before now c.args.running.now.items way c.accept-pass.new.procs c.accept-pass.new.table _ c.accept-pass.result
    true c.args.report.now.events.items (none_there c.args.report.now.events.items c.requires.none)
    (with_items_is now.procs c.accept-pass.new.procs (omega (arith, c.accept-pass.auto.procs, c.deref_mut.ensures.len))) refl refl
    way.stays.sized takes c.accept-pass.ensures.waits c.accept-pass.ensures.groups
    (λ e. record { kind = q.kind; none = q.none; goes_on = q.goes_on }))
    (omega (arith, names, accept_names code t c.args.p before now c.args.running.now.items way)) c.end.ensures.work

pub returns-else-ends_quietly-clause-ended : goal.returns-else-ends_quietly-clause-ended
returns-else-ends_quietly-clause-ended g c = λ t before way.
    let code = plain c.args.code.now in
    let now = c.args.parts.now in
    let leads = way.leads in
    let memory = memory_of now.mails now.links.items in
    let lent = ap (λ (xs : List Seen). slice_get xs c.args.p) c.deref_mut.ensures.value ∙ leads.there in
    let takes = subst (λ (xs : List Seen). HasTaken memory c.accept-pass.new.procs c.accept-pass.new.table c.accept-pass.result
    (accepted (kind_with code now.table) c.args.p leads.one.process.levels (last_of leads.one.process.levels) (world_of xs now.table memory)
    (leads.one.process.state, memory))) c.deref_mut.ensures.value (c.accept-pass.ensures.taken leads.one memory lent) in
    let names = subst (λ (xs : List Seen). c.accept-pass.new.steps
    ≤ c.args.steps.now
    + 3 * named_accepted code (memberships now.table) c.args.p leads.one.process.levels (last_of leads.one.process.levels)
    (world_of xs now.table memory) leads.one.process.state) c.deref_mut.ensures.value (c.accept-pass.ensures.work leads.one memory lent) in
    has_ended code t c.args.p before now c.args.running.now.items c.args.steps.now c.accept-pass.new.steps _ c.end-else-ends_quietly.ensures.finished
    (accept_comes code t c.args.p before now c.args.running.now.items way c.accept-pass.new.procs c.accept-pass.new.table _ c.accept-pass.result
    false c.args.report.now.events.items (none_there c.args.report.now.events.items c.requires.none)
    (with_items_is now.procs c.accept-pass.new.procs (omega (arith, c.accept-pass.auto.procs, c.deref_mut.ensures.len))) refl refl
    way.stays.sized takes c.accept-pass.ensures.waits c.accept-pass.ensures.groups
    (λ e. absurd (cc)))
    (omega (arith, names, accept_names code t c.args.p before now c.args.running.now.items way)) c.end-else-ends_quietly.ensures.work
