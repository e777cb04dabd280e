use Rattle.std.proofs.Common.{drop}
use Rattle.rb_code.specs.WordMachine.WordKind.{word_kind}
use Rattle.rb_trace.specs.Naming.{naming}
use Rattle.rb_trace.proofs.Written.{Written}
use Rattle.rb_stuck.specs.Stuck.{waiting_text}
use Rattle.rb_stuck.proofs.text.write_waits.Given as goal

-- the lines of the processes from this one on are left to write
abbrev pub invariant-loop-p : goal.invariant-loop-p
invariant-loop-p g l =
    let kind = word_kind l.machine.code l.machine.groups in
    Written (waiting_text kind (naming l.names) 0 l.machine.world.processes)
    (waiting_text kind (naming l.names) l.p (drop l.p l.machine.world.processes))
    (g.S.Sink.written l.initial.out) (g.S.Sink.written l.out) (g.S.Sink.faults l.initial.out) (g.S.Sink.faults l.out)
