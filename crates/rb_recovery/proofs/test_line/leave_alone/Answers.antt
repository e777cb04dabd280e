use Rattle.std.proofs.Common.{◌+◌, ◌*◌, ◌≤◌, ap, ◌∙◌, subst, set, get_or}
use Rattle.std.proofs.lemmas.Option.{get_or_from_slice_get, slice_get-get_or}
use Rattle.rb_code.specs.Instructions.Plain.{code as plain}
use Rattle.rb_conv.proofs.Places.{set-changes}
use Rattle.rb_proc.specs.Process.{Seen}
use Rattle.rb_recovery.specs.TestLines.{level_gone}
use Rattle.rb_recovery.specs.Work.{named_leaving}
use Rattle.rb_recovery.proofs.test_line.leave_alone.Goals as goal

pub accept-requires-clause-settles : goal.accept-requires-clause-settles
accept-requires-clause-settles g c =
    let procs = c.args.procs.now in
    (c.requires.holds (get_or procs c.args.p c.index-procs-p.result)
    (slice_get-get_or procs c.args.p c.index-procs-p.result c.requires.process)).settles

pub returns-clause-gone : goal.returns-clause-gone
returns-clause-gone g c =
    ap (set c.args.procs.now c.args.p) c.accept.ensures.settled
    ∙ set-changes (level_gone (plain c.args.code.now)) c.args.procs.now c.args.p c.index-procs-p.result c.requires.process

pub returns-clause-work : goal.returns-clause-work
returns-clause-work g c = λ one e.
    subst (λ (x : Seen). c.accept.new.steps ≤ c.args.steps.now + 3 * named_leaving (plain c.args.code.now) x.process.state x.process.levels)
    (get_or_from_slice_get c.args.procs.now c.args.p one c.index-procs-p.result e) c.accept.ensures.work
