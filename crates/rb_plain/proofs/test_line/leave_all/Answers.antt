-- One more process leaves the line.
use Rattle.rb_syntax.specs.Plain.{tree}
use Rattle.rb_world.specs.Turn.{leaves}
use Rattle.rb_levels.specs.Worlds.{unkept_kind}
use Rattle.rb_plain.proofs.TestLines.{one_more}
use Rattle.rb_plain.proofs.test_line.leave_all.Goals as goal

pub loop-process-preserved : goal.loop-process-preserved
loop-process-preserved c =
    one_more (leaves (unkept_kind (tree c.args.program.now)) c.args.conversation) c.args.processes.now c.loop-process.processes
    c.loop-process.process-index c.process-item.result c.leave.new.process c.loop-process-test.true c.loop-process.invariant
    c.leave.ensures
