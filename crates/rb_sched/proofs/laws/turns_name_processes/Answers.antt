use Rattle.rb_sched.proofs.Walk.{turns_known}
use Rattle.rb_sched.proofs.laws.turns_name_processes.Goals as goal

pub returns : goal.returns
returns c = turns_known
