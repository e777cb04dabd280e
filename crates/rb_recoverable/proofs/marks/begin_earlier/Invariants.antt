use Rattle.std.proofs.Common.{◌≡◌, ◌++◌, map, take, drop}
use Rattle.rb_recoverable.specs.Marks.{earlier}
use Rattle.rb_recoverable.proofs.marks.begin_earlier.Given as goal

abbrev pub invariant-loop-mark : goal.invariant-loop-mark
invariant-loop-mark l = l.marks ≡ map earlier (take l.mark-index l.fn.marks) ++ drop l.mark-index l.fn.marks
