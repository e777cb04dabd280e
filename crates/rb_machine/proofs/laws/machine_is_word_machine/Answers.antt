use Rattle.rb_machine.proofs.Beginning.MachineRuns.{machine_runs}
use Rattle.rb_machine.proofs.laws.machine_is_word_machine.Goals as goal

pub returns : goal.returns
returns c = machine_runs
