-- Those who came first have left the line, and the others are as they were; and what was named on their way is paid.
use Rattle.std.proofs.Common.{◌≡◌, ◌+◌, ◌*◌, ◌≤◌, ◌++◌, map, take, drop, sum_by}
use Rattle.rb_code.specs.Instructions.Plain.{code as plain}
use Rattle.rb_recovery.specs.TestLines.{line_left}
use Rattle.rb_recovery.specs.Work.{named_by_member}
use Rattle.rb_recovery.specs.Worlds.{processes_of}
use Rattle.rb_recovery.proofs.test_line.leave_all.Given as goal

abbrev pub invariant-loop-proc : goal.invariant-loop-proc
invariant-loop-proc g l =
    record {
      left : l.procs ≡ map (line_left (plain l.code) l.conversation) (take l.proc-index l.fn.procs) ++ drop l.proc-index l.fn.procs;
      work : l.steps ≤ l.fn.steps + 3 * sum_by (named_by_member (plain l.code) l.conversation) (processes_of (take l.proc-index l.fn.procs));
    }
