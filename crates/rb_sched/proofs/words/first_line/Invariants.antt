use Rattle.std.proofs.Common.{◌≡◌, take, drop, length}
use Rattle.rb_sched.specs.Schedule.{lines_of, lines_from}
use Rattle.rb_sched.proofs.words.first_line.Given as goal

abbrev pub invariant-loop-rest : goal.invariant-loop-rest
invariant-loop-rest l = record { left : l.rest ≡ drop l.length l.text; read : lines_of l.text ≡ lines_from (take l.length l.text) l.rest }

abbrev pub decreases-loop-rest : goal.decreases-loop-rest
decreases-loop-rest l = length l.rest
