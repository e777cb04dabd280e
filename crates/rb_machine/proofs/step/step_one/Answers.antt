-- The process that steps is that at its number.
use Rattle.std.proofs.Common.{◌+◌, ◌*◌, ◌≤◌, subst, get_or}
use Rattle.std.proofs.lemmas.Option.{get_or_from_slice_get, slice_get-get_or}
use Rattle.rb_code.specs.Instructions.Plain.{code as plain}
use Rattle.rb_conv.proofs.Places.{set-changes}
use Rattle.rb_proc.specs.Given.{alternate_by}
use Rattle.rb_proc.specs.Process.{Seen}
use Rattle.rb_proc.specs.Work.{named_in_step}
use Rattle.rb_machine.specs.Stepping.{AddsLink, HasDone}
use Rattle.rb_machine.proofs.step.step_one.Goals as goal

pub step_kept-requires-clause-may : goal.step_kept-requires-clause-may
step_kept-requires-clause-may g c =
    let procs = c.args.procs.now in
    c.requires.may (get_or procs c.args.p c.index-procs-p.result) (slice_get-get_or procs c.args.p c.index-procs-p.result c.requires.process)

pub step_kept-requires-clause-wanted : goal.step_kept-requires-clause-wanted
step_kept-requires-clause-wanted g c =
    let procs = c.args.procs.now in
    c.requires.wanted (get_or procs c.args.p c.index-procs-p.result) (slice_get-get_or procs c.args.p c.index-procs-p.result c.requires.process)

pub returns-clause-done : goal.returns-clause-done
returns-clause-done g c = λ one e.
    let procs = c.args.procs.now in
    let x = c.index-procs-p.result in
    record {
      later = c.step_kept.new.proc;
      does = subst (λ (y : Seen). HasDone (plain c.args.code.now) c.args.turn c.args.message y c.step_kept.result c.args.mails.now c.step_kept.new.mails
          c.step_kept.new.proc) (get_or_from_slice_get procs c.args.p one x e) c.step_kept.ensures.done;
      processes = set-changes (λ _. c.step_kept.new.proc) procs c.args.p x c.requires.process;
    }

pub returns-clause-links : goal.returns-clause-links
returns-clause-links g c = λ one e.
    subst (λ (y : Seen). AddsLink c.step_kept.result
    (record {
      turn = c.args.turn;
      process = c.args.p;
      alternate = alternate_by c.args.wanted y.process.levels;
      before = y.process.state.last_kept;
    }) c.args.links.now.items c.step_kept.new.links.items)
    (get_or_from_slice_get c.args.procs.now c.args.p one c.index-procs-p.result e) c.step_kept.ensures.links

pub returns-clause-work : goal.returns-clause-work
returns-clause-work g c = λ one e.
    subst (λ (y : Seen). c.step_kept.new.steps
    ≤ c.args.steps.now + 3 * named_in_step (plain c.args.code.now) y.process c.args.mails.now c.args.message)
    (get_or_from_slice_get c.args.procs.now c.args.p one c.index-procs-p.result e) c.step_kept.ensures.work
