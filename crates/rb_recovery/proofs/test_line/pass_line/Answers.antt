use Rattle.std.proofs.Common.{sym, ◌∙◌}
use Rattle.rb_code.specs.Instructions.Plain.{code as plain}
use Rattle.rb_recovery.proofs.Working.LineWork.{line_named}
use Rattle.rb_recovery.proofs.Turning.TestLines.{left_waits, line_passed, line_waits, pass_same}
use Rattle.rb_recovery.proofs.test_line.pass_line.Goals as goal

pub returns-then-not-all_stand-clause-taken : goal.returns-then-not-all_stand-clause-taken
returns-then-not-all_stand-clause-taken g c = λ memory.
    let code = plain c.args.code.now in
    line_waits code memory c.args.procs.now c.args.table.now c.args.conversation (sym (c.all_stand.ensures code memory) ∙ c.if-not-all_stand.true)

pub returns-clause-taken : goal.returns-clause-taken
returns-clause-taken g c = λ memory.
    let code = plain c.args.code.now in
    line_passed code memory c.args.procs.now c.leave_all.new.procs c.args.table.now c.pass.new.self c.args.conversation c.alternate-alternate.result
    c.requires.conversation (sym (c.all_stand.ensures code memory) ∙ c.if-not-all_stand.false) c.leave_all.ensures.left c.pass.ensures.passed
    c.alternate-alternate.ensures

pub returns-clause-waits : goal.returns-clause-waits
returns-clause-waits g c =
    left_waits (plain c.args.code.now) c.args.conversation c.args.procs.now c.leave_all.new.procs c.leave_all.ensures.left c.requires.waits

pub returns-clause-groups : goal.returns-clause-groups
returns-clause-groups g c = pass_same c.args.table.now c.pass.new.self c.args.conversation c.pass.ensures.passed

pub returns-clause-work : goal.returns-clause-work
returns-clause-work g c = λ memory.
    let code = plain c.args.code.now in
    line_named code c.args.steps.now c.leave_all.new.steps memory c.args.procs.now c.args.table.now c.args.conversation
    (sym (c.all_stand.ensures code memory) ∙ c.if-not-all_stand.false) c.leave_all.ensures.work
