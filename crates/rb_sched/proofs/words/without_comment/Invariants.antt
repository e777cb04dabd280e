use Rattle.std.proofs.Common.{◌≡◌, ◌++◌, take, drop, length}
use Rattle.rb_sched.specs.Schedule.{without_comment}
use Rattle.rb_sched.proofs.words.without_comment.Given as goal

abbrev pub invariant-loop-rest : goal.invariant-loop-rest
invariant-loop-rest l =
    record { left : l.rest ≡ drop l.length l.line; read : without_comment l.line ≡ take l.length l.line ++ without_comment l.rest }

abbrev pub decreases-loop-rest : goal.decreases-loop-rest
decreases-loop-rest l = length l.rest
