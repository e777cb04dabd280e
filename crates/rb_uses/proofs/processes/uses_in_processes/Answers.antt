use Rattle.rb_syntax.specs.Plain.{tree}
use Rattle.rb_uses.specs.Memory.{all_held}
use Rattle.rb_uses.proofs.ProcessUses.{process_more}
use Rattle.rb_uses.proofs.processes.uses_in_processes.Goals as goal

pub loop-number-preserved : goal.loop-number-preserved
loop-number-preserved c =
    process_more (tree c.args.program.now) (all_held c.loop-number.uses.items) (all_held c.uses_in_process.new.uses.items) _
    c.args.processes.now c.loop-number.number c.index-processes-number.result c.index-processes-number.is c.loop-number-test.true
    c.in_ok-uses_in_process.ensures c.loop-number.invariant
