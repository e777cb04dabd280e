use Rattle.std.proofs.Common.{◌≡◌, ◌+◌, ◌≤◌, ◌++◌, map, take, drop}
use Rattle.rb_world.specs.Reject.{put_back, where_inside}
use Rattle.rb_code.specs.Instructions.Plain.{Code}
use Rattle.rb_proc.specs.Process.{kind_of}
use Rattle.rb_recovery.specs.Rejections.{changed}
use Rattle.rb_recovery.specs.Work.{inside, touched_in}
use Rattle.rb_recovery.specs.Worlds.{processes_of}
use Rattle.rb_recovery.proofs.cascade.put_back_inside.Given as goal

abbrev pub invariant-loop-proc : goal.invariant-loop-proc
invariant-loop-proc g l = record {
  so_far : (c : Code) → l.procs
      ≡ map (changed (where_inside (put_back (kind_of c)) l.conversation)) (take l.proc-index l.fn.procs) ++ drop l.proc-index l.fn.procs;
  rest : drop l.proc-index l.procs ≡ drop l.proc-index l.fn.procs;
  work : l.steps + touched_in (processes_of l.procs)
      ≤ l.fn.steps + touched_in (processes_of l.fn.procs) + inside l.conversation (processes_of (take l.proc-index l.fn.procs));
}
