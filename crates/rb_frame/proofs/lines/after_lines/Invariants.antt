use Rattle.std.proofs.Common.{◌≡◌, ◌≤◌, length}
use Rattle.rb_frame.specs.Lines.{after_lines}
use Rattle.rb_frame.proofs.lines.after_lines.Given as goal

abbrev pub invariant-loop-left : goal.invariant-loop-left
invariant-loop-left l = record { same : after_lines l.left l.rest ≡ after_lines l.lines l.text; within : length l.rest ≤ length l.text }

abbrev pub decreases-loop-left : goal.decreases-loop-left
decreases-loop-left l = l.left
