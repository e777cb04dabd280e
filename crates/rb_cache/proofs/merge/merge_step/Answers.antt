use Rattle.std.proofs.Common.{arith}
use Rattle.std.proofs.lemmas.Grind.{common_steps}
use Rattle.rb_cache.proofs.merge.merge_step.Goals as goal

pub returns-then-earlier-lower-clause-rest : goal.returns-then-earlier-lower-clause-rest
returns-then-earlier-lower-clause-rest c = grind (arith, common_steps)

pub returns-then-earlier-lower-clause-merged : goal.returns-then-earlier-lower-clause-merged
returns-then-earlier-lower-clause-merged c = grind (arith, common_steps)

pub index_mut-requires-then-earlier-lower : goal.index_mut-requires-then-earlier-lower
index_mut-requires-then-earlier-lower c = grind (arith, common_steps)
