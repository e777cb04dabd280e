-- The lines of the processes so far were counted and forgotten, and the processes behind are as they were.
use Rattle.std.proofs.Common.{◌≡◌, ◌*◌, ◌≤◌, ◌++◌, map, drop, take, sum_by}
use Rattle.rb_base.specs.declared.limits.TheConstants.{MOST_HELD_BYTES}
use Rattle.rb_machine.proofs.Releasing.Dropped.{lines_in, quiet}
use Rattle.rb_machine.proofs.telling.drop_all_released.Given as goal

abbrev pub invariant-loop-proc : goal.invariant-loop-proc
invariant-loop-proc g l =
    record {
      quiet_so_far : l.procs ≡ map quiet (take l.proc-index l.fn.procs) ++ drop l.proc-index l.fn.procs;
      left : drop l.proc-index l.procs ≡ drop l.proc-index l.fn.procs;
      counted : l.count ≡ sum_by lines_in (take l.proc-index l.fn.procs);
      few : l.count ≤ l.proc-index * MOST_HELD_BYTES;
    }
