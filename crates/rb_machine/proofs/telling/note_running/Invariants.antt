use Rattle.std.proofs.Common.{◌≡◌, ◌++◌, map, drop, take}
use Rattle.rb_proc.specs.Process.{Seen}
use Rattle.rb_machine.specs.Telling.{is_running}
use Rattle.rb_machine.proofs.telling.note_running.Given as goal

abbrev pub invariant-loop-p : goal.invariant-loop-p
invariant-loop-p g l =
    l.running ≡ map (λ (one : Seen). is_running one.process.status) (take l.p l.procs) ++ drop l.p l.fn.running
