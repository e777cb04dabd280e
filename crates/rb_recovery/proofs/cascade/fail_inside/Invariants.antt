use Rattle.std.proofs.Common.{◌≡◌, ◌++◌, map, take, drop}
use Rattle.rb_world.specs.Reject.{fallen_inside}
use Rattle.rb_code.specs.Instructions.Plain.{Code}
use Rattle.rb_proc.specs.Process.{kind_of}
use Rattle.rb_recovery.specs.Rejections.{changed}
use Rattle.rb_recovery.proofs.cascade.fail_inside.Given as goal

abbrev pub invariant-loop-proc : goal.invariant-loop-proc
invariant-loop-proc g l = (c : Code) → l.procs
    ≡ map (changed (fallen_inside (kind_of c) l.conversation)) (take l.proc-index l.fn.procs) ++ drop l.proc-index l.fn.procs
