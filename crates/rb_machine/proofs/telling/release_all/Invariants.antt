use Rattle.std.proofs.Common.{◌≡◌, ◌+◌, ◌*◌, ◌≤◌, ◌++◌, map, drop, sum_by, take}
use Rattle.rb_code.specs.Instructions.Plain.{Code}
use Rattle.rb_machine.specs.Telling.{freed_one}
use Rattle.rb_machine.proofs.Working.ReleaseWork.{releases}
use Rattle.rb_machine.proofs.telling.release_all.Given as goal

-- the processes behind the present one are as they were
abbrev pub invariant-loop-proc : goal.invariant-loop-proc
invariant-loop-proc g l =
    record {
      freed : (c : Code) → l.procs ≡ map (freed_one c) (take l.proc-index l.fn.procs) ++ drop l.proc-index l.fn.procs;
      left : drop l.proc-index l.procs ≡ drop l.proc-index l.fn.procs;
      work : l.steps ≤ l.fn.steps + 2 * sum_by releases (take l.proc-index l.fn.procs);
    }
