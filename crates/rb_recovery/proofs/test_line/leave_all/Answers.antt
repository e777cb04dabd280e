use Rattle.std.proofs.Common.{◌≡◌, [], ap, sym, ◌∙◌, subst, get_or}
use Rattle.std.proofs.lemmas.Option.{slice_get-get_or}
use Rattle.rb_scope.proofs.EachSite.{all_at}
use Rattle.rb_code.specs.Instructions.Plain.{code as plain}
use Rattle.rb_conv.proofs.Places.{one_more}
use Rattle.rb_proc.specs.Process.{Seen}
use Rattle.rb_recovery.specs.TestLines.{MayLeave, line_left}
use Rattle.rb_recovery.specs.Work.{named_by_member}
use Rattle.rb_recovery.proofs.Changed.{rest_there}
use Rattle.rb_recovery.proofs.Working.LineWork.{all_named, one_more_named}
use Rattle.rb_recovery.proofs.test_line.leave_all.Goals as goal

pub leave-requires-clause-waits : goal.leave-requires-clause-waits
leave-requires-clause-waits g c =
    let procs = c.args.procs.now in
    let i = c.loop-proc.proc-index in
    let x = c.proc-item.result in
    let same = rest_there
    (line_left (plain c.args.code.now) c.args.conversation) procs c.loop-proc.procs i x c.loop-proc-test.true c.loop-proc.invariant.left in
    ap (λ (one : Seen). one.waiting) same
    ∙ all_at (λ (one : Seen). one.waiting ≡ []) procs i (get_or procs i x) c.requires.waits (slice_get-get_or procs i x c.loop-proc-test.true)

pub leave-requires-clause-leave : goal.leave-requires-clause-leave
leave-requires-clause-leave g c =
    let code = plain c.args.code.now in
    let procs = c.args.procs.now in
    let i = c.loop-proc.proc-index in
    let x = c.proc-item.result in
    let same = rest_there (line_left code c.args.conversation) procs c.loop-proc.procs i x c.loop-proc-test.true c.loop-proc.invariant.left in
    subst (MayLeave code 0) (sym same) (c.requires.leave i (get_or procs i x) (slice_get-get_or procs i x c.loop-proc-test.true))

pub loop-proc-preserved : goal.loop-proc-preserved
loop-proc-preserved g c =
    let code = plain c.args.code.now in
    let procs = c.args.procs.now in
    let i = c.loop-proc.proc-index in
    let x = c.proc-item.result in
    record {
      left = one_more (line_left code c.args.conversation) procs c.loop-proc.procs i x c.leave.new.proc c.loop-proc-test.true c.loop-proc.auto.procs
          c.loop-proc.invariant.left c.leave.ensures.left;
      work = one_more_named
          (named_by_member code c.args.conversation) procs c.loop-proc.procs i x c.args.steps.now c.loop-proc.steps c.leave.new.steps
          c.loop-proc-test.true
          (rest_there (line_left code c.args.conversation) procs c.loop-proc.procs i x c.loop-proc-test.true c.loop-proc.invariant.left)
          c.loop-proc.invariant.work c.leave.ensures.work;
    }

pub returns-clause-work : goal.returns-clause-work
returns-clause-work g c =
    all_named (named_by_member (plain c.args.code.now) c.args.conversation) c.args.procs.now c.loop-proc.proc-index c.args.steps.now c.loop-proc.steps
    c.loop-proc-test.false c.loop-proc.invariant.work
