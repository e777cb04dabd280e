use Rattle.rb_recoverable.specs.Marks.{earlier}
use Rattle.rb_recoverable.proofs.Counted.{one_more}
use Rattle.rb_recoverable.proofs.marks.begin_earlier.Goals as goal

pub loop-mark-preserved : goal.loop-mark-preserved
loop-mark-preserved c =
    one_more earlier c.args.marks.now c.loop-mark.marks c.loop-mark.mark-index _ c.start_earlier.new.mark c.loop-mark-test.true
    c.loop-mark.invariant c.start_earlier.ensures
