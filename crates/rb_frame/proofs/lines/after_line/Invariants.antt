use Rattle.std.proofs.Common.{◌≡◌, ◌≤◌, length}
use Rattle.rb_frame.specs.Lines.{after_line}
use Rattle.rb_frame.proofs.lines.after_line.Given as goal

abbrev pub invariant-loop-rest : goal.invariant-loop-rest
invariant-loop-rest l = record { same : after_line l.rest ≡ after_line l.text; within : length l.rest ≤ length l.text }

abbrev pub decreases-loop-rest : goal.decreases-loop-rest
decreases-loop-rest l = length l.rest
