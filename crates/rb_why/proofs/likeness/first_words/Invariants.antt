use Rattle.std.proofs.Common.{◌≡◌, length}
use Rattle.rb_sched.specs.Schedule.{lines_of}
use Rattle.rb_why.specs.Likeness.{first_words}
use Rattle.rb_why.proofs.likeness.first_words.Given as goal

abbrev pub invariant-loop-rest : goal.invariant-loop-rest
invariant-loop-rest l = first_words (lines_of l.rest) ≡ first_words (lines_of l.text)

abbrev pub decreases-loop-rest : goal.decreases-loop-rest
decreases-loop-rest l = length l.rest
