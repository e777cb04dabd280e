use Rattle.std.proofs.Common.{◌≡◌, ℕ, ◌<◌, List, length, slice_set}
use Rattle.std.specs.List.{flat_map}
use Rattle.rb_base.specs.Lines.{belonging}
use Rattle.rb_trace.specs.Naming.{naming}
use Rattle.rb_trace.specs.Report.{out_line}
use Rattle.rb_trace.proofs.Written.{Written}
use Rattle.rb_trace.proofs.report.write_released.Given as goal

-- the lines that still wait are left to write, and nothing else changed
abbrev pub invariant-lines : goal.invariant-lines
invariant-lines g l =
    let text : List (List ℕ) → List ℕ = flat_map (out_line (naming l.names) l.turn l.process) in
    let before = g.M.Lines.waiting l.initial.lines in
    let now = g.M.Lines.waiting l.lines in
    Written (text (belonging before l.process)) (text (belonging now l.process)) (g.S.Sink.written l.initial.out)
    (g.S.Sink.written l.out) (g.S.Sink.faults l.initial.out) (g.S.Sink.faults l.out)
    × (now ≡ slice_set before l.process (belonging now l.process))
    × (l.process < length now)
    × (g.M.Lines.rest l.lines ≡ g.M.Lines.rest l.initial.lines)

abbrev pub decreases-lines : goal.decreases-lines
decreases-lines g l = length (belonging (g.M.Lines.waiting l.lines) l.process)
