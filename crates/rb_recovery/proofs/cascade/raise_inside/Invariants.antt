use Rattle.std.proofs.Common.{◌≡◌, ◌++◌, map, take, drop}
use Rattle.rb_world.specs.Reject.{raised, where_inside}
use Rattle.rb_recovery.specs.Rejections.{changed}
use Rattle.rb_recovery.proofs.cascade.raise_inside.Given as goal

abbrev pub invariant-loop-proc : goal.invariant-loop-proc
invariant-loop-proc g l = record {
  so_far : l.procs ≡ map (changed (where_inside raised l.conversation)) (take l.proc-index l.fn.procs) ++ drop l.proc-index l.fn.procs;
  rest : drop l.proc-index l.procs ≡ drop l.proc-index l.fn.procs;
}
