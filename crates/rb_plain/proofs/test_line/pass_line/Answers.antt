-- The line is passed, or not.
use Rattle.std.proofs.Common.{sym, ◌∙◌}
use Rattle.rb_syntax.specs.Plain.{tree}
use Rattle.rb_plain.proofs.TestLines.{line_passed, line_waits}
use Rattle.rb_plain.proofs.test_line.pass_line.Goals as goal

pub returns-then-not-do_all_stand : goal.returns-then-not-do_all_stand
returns-then-not-do_all_stand c =
    let plain = tree c.args.program.now in
    line_waits plain c.args.conversation c.args.processes.now
    (sym (c.do_all_stand.ensures plain c.requires) ∙ c.if-not-do_all_stand.true)

pub returns : goal.returns
returns c =
    let plain = tree c.args.program.now in
    line_passed plain c.args.conversation c.args.processes.now c.leave_all.new.processes
    (sym (c.do_all_stand.ensures plain c.requires) ∙ c.if-not-do_all_stand.false) c.leave_all.ensures
