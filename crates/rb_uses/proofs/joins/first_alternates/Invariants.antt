use Rattle.std.proofs.Common.{◌≡◌, length}
use Rattle.rb_nest.specs.Answers.{first_answer}
use Rattle.rb_uses.specs.Memory.{all_held}
use Rattle.rb_uses.specs.Summary.{alternates_for}
use Rattle.rb_uses.proofs.joins.first_alternates.Given as goal

abbrev pub invariant-converses : goal.invariant-converses
invariant-converses l =
    first_answer (alternates_for l.number) (all_held l.rest) ≡ first_answer (alternates_for l.number) (all_held l.fn.joins)

abbrev pub decreases-converses : goal.decreases-converses
decreases-converses l = length l.rest
