use Rattle.rb_proc.proofs.Listed.{process_listed}
use Rattle.rb_proc.proofs.process.Proc.new.Goals as goal

pub new-sight-requires-clause-process : goal.new-sight-requires-clause-process
new-sight-requires-clause-process g c = process_listed c.args.code.now c.args.process c.requires.process

pub start_of-requires : goal.start_of-requires
start_of-requires g c = process_listed c.args.code.now c.args.process c.requires.process
