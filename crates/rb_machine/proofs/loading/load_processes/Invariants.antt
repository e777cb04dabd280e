-- So far each process is as it is before its first turn.
use Rattle.std.proofs.Common.{◌≡◌, map, take}
use Rattle.rb_code.specs.Instructions.Plain.{code as plain}
use Rattle.rb_code.specs.WordMachine.WordRun.{opening_standings}
use Rattle.rb_machine.specs.Loading.{first_seen}
use Rattle.rb_machine.proofs.loading.load_processes.Given as goal

abbrev pub invariant-loop-process : goal.invariant-loop-process
invariant-loop-process g l = l.procs.items ≡ map (first_seen (plain l.code)) (opening_standings 0 (take l.process (plain l.code).processes))
