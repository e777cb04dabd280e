-- An entry is a trap, or opens a level, or fails in a conversation that is broken for good.
use Rattle.std.proofs.Common.{◌≡◌, ◌<◌, ◌+◌, ap, sym, ◌∙◌, subst, refl, List, length, slice_get, arith}
use Rattle.std.proofs.lemmas.List.{with_items_is}
use Rattle.std.proofs.lemmas.Option.{slice_get_read}
use Rattle.rb_base.specs.declared.event.Cause.TheVariants.{Broken}
use Rattle.rb_world.specs.Reject.{fallen}
use Rattle.rb_world.specs.World.{change_at}
use Rattle.rb_world.proofs.ListFacts.{some_same}
use Rattle.rb_code.specs.Instructions.Plain.{code as plain}
use Rattle.rb_code.specs.WordMachine.Turn.{want}
use Rattle.rb_proc.specs.Entries.{WantsBlock, entered_process}
use Rattle.rb_proc.specs.Process.{Seen, kind_of}
use Rattle.rb_recoverable.proofs.Leaving.{none_there}
use Rattle.rb_recovery.specs.TestLines.{passes_of}
use Rattle.rb_recovery.specs.Rejections.{changed}
use Rattle.rb_machine.specs.Telling.{takes_nothing_back}
use Rattle.rb_recovery.specs.Worlds.{NoneWaits, memory_of, world_of}
use Rattle.rb_machine.proofs.Turning.Acting.{moved_as}
use Rattle.rb_machine.proofs.Turning.Ended.{not_quiet}
use Rattle.rb_machine.proofs.Turning.Entered.{entered_goes_on, restarts_at_work}
use Rattle.rb_machine.proofs.Turning.Entering.{entry_trapped, few_levels, has_failed, has_opened, is_listed}
use Rattle.rb_ready.proofs.Wanting.{wants_block}
use Rattle.rb_machine.proofs.Knowing.KnownHere.{are_quiet, may_reject}
use Rattle.rb_recovery.proofs.Rejecting.QuietProcesses.{waits_at}
use Rattle.rb_machine.proofs.entry.enter.Goals as goal

pub undo-requires-clause-may : goal.undo-requires-clause-may
undo-requires-clause-may g c =
    let parts = c.args.parts.now in
    let procs = parts.procs.items in
    let work = c.requires.work.work in
    let here = slice_get_read procs (length procs) c.args.p c.index.result.now refl c.requires.process c.index.ensures in
    may_reject (plain c.args.code.now) parts.table work.sound (c.args.turn + 1) procs (memory_of parts.mails parts.links.items) work.known
    c.args.p c.levels-levels.result
    (λ one there. omega (arith, c.levels-levels.ensures, ap (λ (x : Seen). length x.process.levels) (some_same (sym here ∙ there))))

pub undo-requires-clause-quiet : goal.undo-requires-clause-quiet
undo-requires-clause-quiet g c =
    let parts = c.args.parts.now in
    let work = c.requires.work.work in
    are_quiet (plain c.args.code.now) parts.table work.sound (c.args.turn + 1) parts.procs.items (memory_of parts.mails parts.links.items)
    work.known work.few c.requires.work.waits

pub undo-requires-clause-few : goal.undo-requires-clause-few
undo-requires-clause-few g c =
    let parts = c.args.parts.now in
    let procs = parts.procs.items in
    let one = c.index.result.now in
    let here = slice_get_read procs (length procs) c.args.p one refl c.requires.process c.index.ensures in
    omega (
      arith,
      c.levels-levels.ensures,
      few_levels (plain c.args.code.now) (c.args.turn + 1) procs parts.table parts.mails parts.links.items
          c.requires.work.work c.args.p one here (c.requires.acting one here),
    )

pub returns-then-levels-ge-MOST_OPEN_LEVELS-clause-moved : goal.returns-then-levels-ge-MOST_OPEN_LEVELS-clause-moved
returns-then-levels-ge-MOST_OPEN_LEVELS-clause-moved g c facts one there wants =
    let code = plain c.args.code.now in
    let parts = c.args.parts.now in
    let procs = parts.procs.items in
    let here = slice_get_read procs (length procs) c.args.p c.index.result.now refl c.requires.process c.index.ensures in
    let levels : c.levels-levels.result ≡ length one.process.levels =
    c.levels-levels.ensures ∙ ap (λ (x : Seen). length x.process.levels) (some_same (sym here ∙ there)) in
    moved_as (sym
    (entry_trapped code parts.table parts.mails parts.links.items c.args.turn c.args.p procs facts one there c.levels-levels.result levels
    c.if-levels-ge-MOST_OPEN_LEVELS.true))
    (c.undo.ensures.moved code)

pub returns-then-levels-ge-MOST_OPEN_LEVELS-clause-left : goal.returns-then-levels-ge-MOST_OPEN_LEVELS-clause-left
returns-then-levels-ge-MOST_OPEN_LEVELS-clause-left g c = c.undo.ensures.left (plain c.args.code.now) c.requires.work.work.sized

pub returns-then-levels-ge-MOST_OPEN_LEVELS-clause-took : goal.returns-then-levels-ge-MOST_OPEN_LEVELS-clause-took
returns-then-levels-ge-MOST_OPEN_LEVELS-clause-took g c = λ e. not_quiet (sym c.undo.ensures.quiet ∙ e)

pub returns-then-levels-ge-MOST_OPEN_LEVELS-clause-quiet : goal.returns-then-levels-ge-MOST_OPEN_LEVELS-clause-quiet
returns-then-levels-ge-MOST_OPEN_LEVELS-clause-quiet g c = λ e. not_quiet (sym c.undo.ensures.quiet ∙ e)

pub alternate_for-requires : goal.alternate_for-requires
alternate_for-requires g c =
    let code = plain c.args.code.now in
    let parts = c.args.parts.now in
    let procs = parts.procs.items in
    let one = c.index.result.now in
    let here = slice_get_read procs (length procs) c.args.p one refl c.requires.process c.index.ensures in
    let wants = wants_block c.args.block (want code one.process.state) (c.requires.wants one here) in
    is_listed code (c.args.turn + 1) procs parts.table parts.mails parts.links.items c.requires.work.work c.args.p one here
    (c.requires.acting one here) c.args.block wants.0 wants.1 wants.2

pub open-requires-clause-acting : goal.open-requires-clause-acting
open-requires-clause-acting g c one there =
    c.requires.acting one (ap (λ (xs : List Seen). slice_get xs c.args.p) (sym c.deref_mut-in-Some.ensures.value) ∙ there)

pub open-requires-clause-restart : goal.open-requires-clause-restart
open-requires-clause-restart g c one there =
    let code = plain c.args.code.now in
    let parts = c.args.parts.now in
    let here = ap (λ (xs : List Seen). slice_get xs c.args.p) (sym c.deref_mut-in-Some.ensures.value) ∙ there in
    let wants = wants_block c.args.block (want code one.process.state) (c.requires.wants one here) in
    restarts_at_work code (c.args.turn + 1) parts.procs.items parts.table parts.mails parts.links.items c.requires.work.work c.args.p one here
    (c.requires.acting one here) wants.0 wants.1

pub open-requires-clause-shallow : goal.open-requires-clause-shallow
open-requires-clause-shallow g c one there =
    let procs = c.args.parts.now.procs.items in
    let here = slice_get_read procs (length procs) c.args.p c.index.result.now refl c.requires.process c.index.ensures in
    let same = some_same (sym here ∙ (ap (λ (xs : List Seen). slice_get xs c.args.p) (sym c.deref_mut-in-Some.ensures.value) ∙ there)) in
    omega (arith, c.levels-levels.ensures, ap (λ (x : Seen). length x.process.levels) same)

pub open-requires-clause-wants : goal.open-requires-clause-wants
open-requires-clause-wants g c one there =
    c.requires.wants one (ap (λ (xs : List Seen). slice_get xs c.args.p) (sym c.deref_mut-in-Some.ensures.value) ∙ there)

pub returns-in-None-clause-moved : goal.returns-in-None-clause-moved
returns-in-None-clause-moved g c facts one there wants =
    let code = plain c.args.code.now in
    let parts = c.args.parts.now in
    let procs = parts.procs.items in
    let here = slice_get_read procs (length procs) c.args.p c.index.result.now refl c.requires.process c.index.ensures in
    let few : length one.process.levels < 32 =
    omega (arith, c.levels-levels.ensures, ap (λ (x : Seen). length x.process.levels) (some_same (sym here ∙ there))) in
    let number = subst (WantsBlock c.args.block) (wants one there) (c.requires.wants one there) in
    let h = has_failed code (c.args.turn + 1) procs parts.table parts.mails parts.links.items c.requires.work.work c.args.p one there
    (c.requires.acting one there) c.args.block facts (wants one there) number c.args.turn few c.alternate_for.result c.alternate_for.ensures.alternate
    c.fail.new.procs c.alternate_for.new.table c.alternate_for.ensures.talks c.in-None.is
    (subst
    (λ (xs : List Seen). c.fail.new.procs ≡ change_at c.args.p (changed (fallen (kind_of code) Broken)) xs) c.deref_mut.ensures.value
    (c.fail.ensures code)) in
    let kept = with_items_is parts.procs c.fail.new.procs (omega (arith, c.fail.auto.procs, c.deref_mut.ensures.len)) in
    record {
      worlds = ap (λ (xs : List Seen). world_of xs c.alternate_for.new.table (memory_of parts.mails parts.links.items)) kept ∙ h.world;
      kind = c.without_pass.ensures.kind ∙ h.kind;
      rejections = none_there c.args.events.now.items c.requires.none ∙ h.rejections;
      passes = ap passes_of c.without_pass.ensures.pass ∙ h.passes;
    }

pub returns-in-None-clause-left : goal.returns-in-None-clause-left
returns-in-None-clause-left g c =
    let code = plain c.args.code.now in
    let parts = c.args.parts.now in
    let kept = with_items_is parts.procs c.fail.new.procs (omega (arith, c.fail.auto.procs, c.deref_mut.ensures.len)) in
    record {
      waits = subst NoneWaits (sym (kept ∙ (c.fail.ensures code
          ∙ ap (λ (xs : List Seen). change_at c.args.p (changed (fallen (kind_of code) Broken)) xs) c.deref_mut.ensures.value)))
          (waits_at c.args.p (fallen (kind_of code) Broken) parts.procs.items c.requires.work.waits);
      groups = c.alternate_for.ensures.groups;
      sized = c.requires.work.work.sized;
      few = omega (arith, c.requires.none, ap (λ pass. length (passes_of pass)) c.without_pass.ensures.pass);
    }

pub returns-in-None-clause-took : goal.returns-in-None-clause-took
returns-in-None-clause-took g c = λ e. not_quiet (sym c.without_pass.ensures.quiet ∙ e)

pub returns-in-None-clause-quiet : goal.returns-in-None-clause-quiet
returns-in-None-clause-quiet g c = λ e. not_quiet (sym c.without_pass.ensures.quiet ∙ e)

pub returns-in-Some-clause-moved : goal.returns-in-Some-clause-moved
returns-in-Some-clause-moved g c facts one there wants =
    let code = plain c.args.code.now in
    let parts = c.args.parts.now in
    let procs = parts.procs.items in
    let here = slice_get_read procs (length procs) c.args.p c.index.result.now refl c.requires.process c.index.ensures in
    let few : length one.process.levels < 32 =
    omega (arith, c.levels-levels.ensures, ap (λ (x : Seen). length x.process.levels) (some_same (sym here ∙ there))) in
    let number = subst (WantsBlock c.args.block) (wants one there) (c.requires.wants one there) in
    let lent = ap (λ (xs : List Seen). slice_get xs c.args.p) c.deref_mut-in-Some.ensures.value ∙ there in
    let opens = subst
    (λ (xs : List Seen). c.open.new.procs ≡ change_at c.args.p (changed (entered_process code facts c.in-Some.alternate c.args.turn)) xs)
    c.deref_mut-in-Some.ensures.value (c.open.ensures.processes one facts lent (wants one there)) in
    let h = has_opened code (c.args.turn + 1) procs parts.table parts.mails parts.links.items c.requires.work.work c.args.p one there
    (c.requires.acting one there) c.args.block facts (wants one there) number c.args.turn few c.alternate_for.result c.alternate_for.ensures.alternate
    c.open.new.procs c.alternate_for.new.table c.alternate_for.ensures.talks c.in-Some.alternate c.in-Some.is opens
    c.open.new.links.items (c.open.ensures.links one lent) in
    let kept = with_items_is parts.procs c.open.new.procs (omega (arith, c.open.auto.procs, c.deref_mut-in-Some.ensures.len)) in
    record {
      worlds = ap (λ (xs : List Seen). world_of xs c.alternate_for.new.table (memory_of parts.mails c.open.new.links.items)) kept ∙ h.world;
      kind = c.quietly.ensures.kind ∙ h.kind;
      rejections = none_there c.args.events.now.items c.requires.none ∙ h.rejections;
      passes = ap passes_of c.quietly.ensures.pass ∙ h.passes;
    }

pub returns-in-Some-clause-left : goal.returns-in-Some-clause-left
returns-in-Some-clause-left g c =
    let code = plain c.args.code.now in
    let parts = c.args.parts.now in
    let procs = parts.procs.items in
    let one = c.index.result.now in
    let here = slice_get_read procs (length procs) c.args.p one refl c.requires.process c.index.ensures in
    let wants = wants_block c.args.block (want code one.process.state) (c.requires.wants one here) in
    let lent = ap (λ (xs : List Seen). slice_get xs c.args.p) c.deref_mut-in-Some.ensures.value ∙ here in
    let opens = subst
    (λ (xs : List Seen). c.open.new.procs ≡ change_at c.args.p (changed (entered_process code wants.0 c.in-Some.alternate c.args.turn)) xs)
    c.deref_mut-in-Some.ensures.value (c.open.ensures.processes one wants.0 lent wants.1) in
    let kept = with_items_is parts.procs c.open.new.procs (omega (arith, c.open.auto.procs, c.deref_mut-in-Some.ensures.len)) in
    record {
      waits = subst NoneWaits (sym (kept ∙ opens))
          (waits_at c.args.p (entered_process code wants.0 c.in-Some.alternate c.args.turn) procs c.requires.work.waits);
      groups = c.alternate_for.ensures.groups;
      sized = c.requires.work.work.sized;
      few = omega (arith, c.requires.none, ap (λ pass. length (passes_of pass)) c.quietly.ensures.pass);
    }

pub returns-in-Some-clause-took : goal.returns-in-Some-clause-took
returns-in-Some-clause-took g c = λ e. c.quietly.ensures.kind

pub returns-in-Some-clause-quiet : goal.returns-in-Some-clause-quiet
returns-in-Some-clause-quiet g c = λ e.
    let code = plain c.args.code.now in
    let parts = c.args.parts.now in
    let procs = parts.procs.items in
    let one = c.index.result.now in
    let here = slice_get_read procs (length procs) c.args.p one refl c.requires.process c.index.ensures in
    let wants = wants_block c.args.block (want code one.process.state) (c.requires.wants one here) in
    let lent = ap (λ (xs : List Seen). slice_get xs c.args.p) c.deref_mut-in-Some.ensures.value ∙ here in
    let opens = subst
    (λ (xs : List Seen). c.open.new.procs ≡ change_at c.args.p (changed (entered_process code wants.0 c.in-Some.alternate c.args.turn)) xs)
    c.deref_mut-in-Some.ensures.value (c.open.ensures.processes one wants.0 lent wants.1) in
    let kept = with_items_is parts.procs c.open.new.procs (omega (arith, c.open.auto.procs, c.deref_mut-in-Some.ensures.len)) in
    record {
      kind = ap takes_nothing_back c.quietly.ensures.kind;
      none = ap passes_of c.quietly.ensures.pass;
      goes_on = entered_goes_on code (c.args.turn + 1) procs parts.table parts.mails parts.links.items c.requires.work.work c.args.p one here
          (c.requires.acting one here) wants.0 wants.1 c.in-Some.alternate c.args.turn _ (kept ∙ opens);
    }
