-- What a step asks for, and what it leaves of its turn.
use Rattle.std.proofs.Common.{ℕ, List, slice_get, refl, ap, sym, ◌∙◌, subst, arith}
use Rattle.std.proofs.lemmas.List.{with_items_is}
use Rattle.std.proofs.lemmas.Option.{get_or_from_slice_get}
use Rattle.std.specs.Vec.{with_items}
use Rattle.rb_code.specs.Instructions.Plain.{code as plain}
use Rattle.rb_proc.specs.Given.{alternate_by}
use Rattle.rb_proc.specs.Process.{Seen}
use Rattle.rb_world.proofs.ListFacts.{slice_get-there}
use Rattle.rb_machine.specs.Stepping.{AddsLink}
use Rattle.rb_recovery.proofs.Turning.InnermostLevel.{alternate_known}
use Rattle.rb_machine.proofs.Turning.StepTaken.{AtStep, done_here, may_from, no_link_yet, step_leads, step_waits}
use Rattle.rb_machine.proofs.Working.StepWork.{counted_here, step_names}
use Rattle.rb_machine.proofs.step.take_step.Goals as goal

pub step_one-requires-clause-may : goal.step_one-requires-clause-may
step_one-requires-clause-may g c =
    let parts = c.args.parts.now in
    let at : AtStep (plain c.args.code.now) c.args.turn c.args.p c.args.message parts.procs.items parts.table parts.mails parts.links.items =
    record { work = c.requires.work.work; waits = c.requires.work.waits; acting = c.requires.acting; wants = c.requires.step } in
    may_from at c.deref_mut.result.now c.deref_mut.ensures.value

pub step_one-requires-clause-wanted : goal.step_one-requires-clause-wanted
step_one-requires-clause-wanted g c one there =
    c.requires.wanted one (ap (λ (xs : List Seen). slice_get xs c.args.p) (sym c.deref_mut.ensures.value) ∙ there)

pub returns-clause-leads : goal.returns-clause-leads
returns-clause-leads g c = λ one here.
    let code = plain c.args.code.now in
    let parts = c.args.parts.now in
    let at : AtStep code c.args.turn c.args.p c.args.message parts.procs.items parts.table parts.mails parts.links.items =
    record { work = c.requires.work.work; waits = c.requires.work.waits; acting = c.requires.acting; wants = c.requires.step } in
    let lent = ap (λ (xs : List Seen). slice_get xs c.args.p) c.deref_mut.ensures.value ∙ here in
    let items = with_items_is parts.procs c.step_one.new.procs (omega arith) in
    let done = done_here c.deref_mut.ensures.value items (c.step_one.ensures.done one lent) in
    let known = alternate_known code parts.procs.items c.args.p one c.args.wanted (alternate_by c.args.wanted one.process.levels) c.requires.process
    (sym (get_or_from_slice_get parts.procs.items c.args.p one one here)) c.requires.wanted refl in
    step_leads _ at one here c.step_one.result done
    (subst (λ (n : ℕ). AddsLink c.step_one.result
    (record { turn = c.args.turn; process = c.args.p; alternate = n; before = one.process.state.last_kept }) parts.links.items
    c.step_one.new.links.items) known (c.step_one.ensures.links one lent))

pub returns-clause-stays : goal.returns-clause-stays
returns-clause-stays g c =
    let code = plain c.args.code.now in
    let parts = c.args.parts.now in
    let at : AtStep code c.args.turn c.args.p c.args.message parts.procs.items parts.table parts.mails parts.links.items =
    record { work = c.requires.work.work; waits = c.requires.work.waits; acting = c.requires.acting; wants = c.requires.step } in
    let found = slice_get-there parts.procs.items c.args.p c.requires.process in
    let lent = ap (λ (xs : List Seen). slice_get xs c.args.p) c.deref_mut.ensures.value ∙ found.1 in
    let items = with_items_is parts.procs c.step_one.new.procs (omega arith) in
    let done = done_here c.deref_mut.ensures.value items (c.step_one.ensures.done found.0 lent) in
    let after = record parts {
      procs = with_items parts.procs c.step_one.new.procs;
      mails = c.step_one.new.mails;
      links = c.step_one.new.links;
    } in
    record {
      table = refl;
      waits = step_waits after at found.0 found.1 c.step_one.result done;
      sized = c.step_one.ensures.sized;
    }

pub returns-clause-room : goal.returns-clause-room
returns-clause-room g c =
    let parts = c.args.parts.now in
    let found = slice_get-there parts.procs.items c.args.p c.requires.process in
    let lent = ap (λ (xs : List Seen). slice_get xs c.args.p) c.deref_mut.ensures.value ∙ found.1 in
    let none = no_link_yet c.step_one.result (c.step_one.ensures.done found.0 lent) in
    omega (arith, c.step_one.ensures.room, none)

pub returns-clause-work : goal.returns-clause-work
returns-clause-work g c = λ one here.
    let code = plain c.args.code.now in
    let parts = c.args.parts.now in
    let at : AtStep code c.args.turn c.args.p c.args.message parts.procs.items parts.table parts.mails parts.links.items =
    record { work = c.requires.work.work; waits = c.requires.work.waits; acting = c.requires.acting; wants = c.requires.step } in
    let lent = ap (λ (xs : List Seen). slice_get xs c.args.p) c.deref_mut.ensures.value ∙ here in
    let items = with_items_is parts.procs c.step_one.new.procs (omega arith) in
    let done = done_here c.deref_mut.ensures.value items (c.step_one.ensures.done one lent) in
    let after = record parts {
      procs = with_items parts.procs c.step_one.new.procs;
      mails = c.step_one.new.mails;
      links = c.step_one.new.links;
    } in
    step_names after at one here c.step_one.result done c.args.steps.now c.step_one.new.steps
    (counted_here at one here c.deref_mut.result.now c.args.steps.now c.step_one.new.steps c.deref_mut.ensures.value c.step_one.ensures.work)
