use Rattle.rb_code.specs.Instructions.Plain.{code as plain}
use Rattle.std.proofs.Common.{sym, ◌∙◌}
use Rattle.rb_recovery.proofs.Working.LineWork.{member_leaves}
use Rattle.rb_recovery.proofs.test_line.leave.Goals as goal

pub returns-then-stands_at-clause-work : goal.returns-then-stands_at-clause-work
returns-then-stands_at-clause-work g c =
    member_leaves (plain c.args.code.now) c.args.steps.now c.accept.new.steps c.args.conversation c.args.proc.now.process
    (sym c.stands_at.ensures ∙ c.if-stands_at.true) c.accept.ensures.work
