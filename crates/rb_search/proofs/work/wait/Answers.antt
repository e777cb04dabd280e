use Rattle.std.proofs.Common.{◌∷◌, arith}
use Rattle.std.proofs.lemmas.List.Sorted.{length_permutation}
use Rattle.rb_search.proofs.Waiting.{more, there}
use Rattle.rb_search.proofs.work.wait.Goals as goal

pub returns-clause-keeps : goal.returns-clause-keeps
returns-clause-keeps c = λ a h. more c.args.work.now c.push.new.self c.args.at a c.in_ok-push.ensures h

pub returns-clause-has : goal.returns-clause-has
returns-clause-has c = there c.args.work.now c.push.new.self c.args.at c.in_ok-push.ensures

pub returns-clause-few : goal.returns-clause-few
returns-clause-few c = let long = length_permutation (c.args.at ∷ c.args.work.now) c.push.new.self c.in_ok-push.ensures in omega arith
