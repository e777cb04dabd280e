use Rattle.rb_syntax.specs.Plain.{tree}
use Rattle.rb_plain.proofs.Releasing.{one_more_freed}
use Rattle.rb_plain.proofs.playing.free_all.Goals as goal

pub loop-process-preserved : goal.loop-process-preserved
loop-process-preserved c =
    one_more_freed
    (tree c.args.program.now) c.args.processes.now c.loop-process.process-items c.loop-process.process-index c.process-item.result c.free.new.self
    c.loop-process-test.true c.loop-process.auto.process-items c.loop-process.invariant c.free.ensures
