-- The last kept turns of the processes so far.
use Rattle.std.proofs.Common.{◌≡◌, map, take}
use Rattle.rb_proc.specs.Process.{Seen}
use Rattle.rb_recovery.proofs.survivors.last_kept.Given as goal

abbrev pub invariant-loop-proc : goal.invariant-loop-proc
invariant-loop-proc g l = l.turns.items ≡ map (λ (one : Seen). one.process.state.last_kept) (take l.proc-index l.procs)
