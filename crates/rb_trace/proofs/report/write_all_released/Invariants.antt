use Rattle.std.proofs.Common.{◌≡◌, drop}
use Rattle.rb_world.specs.Text.{out_lines}
use Rattle.rb_trace.specs.Naming.{naming}
use Rattle.rb_trace.proofs.Written.{Written}
use Rattle.rb_trace.proofs.Waiting.{cleared}
use Rattle.rb_trace.proofs.report.write_all_released.Given as goal

-- the lines of the processes from this one on are left to write, and no line of those before it waits
abbrev pub invariant-loop-process : goal.invariant-loop-process
invariant-loop-process g l =
    let before = g.M.Lines.waiting l.initial.lines in
    Written (out_lines (naming l.names) l.turn 0 before)
    (out_lines (naming l.names) l.turn l.process (drop l.process before)) (g.S.Sink.written l.initial.out)
    (g.S.Sink.written l.out) (g.S.Sink.faults l.initial.out) (g.S.Sink.faults l.out)
    × (g.M.Lines.waiting l.lines ≡ cleared l.process before)
    × (g.M.Lines.rest l.lines ≡ g.M.Lines.rest l.initial.lines)
