use Rattle.std.proofs.Common.{◌≡◌, length}
use Rattle.rb_nest.specs.Answers.{first_answer}
use Rattle.rb_uses.specs.Memory.{all_held}
use Rattle.rb_uses.specs.Summary.{within_for}
use Rattle.rb_uses.proofs.joins.first_within.Given as goal

abbrev pub invariant-joins : goal.invariant-joins
invariant-joins l = first_answer (within_for l.name) (all_held l.rest) ≡ first_answer (within_for l.name) (all_held l.fn.joins)

abbrev pub decreases-joins : goal.decreases-joins
decreases-joins l = length l.rest
