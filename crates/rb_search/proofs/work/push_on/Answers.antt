use Rattle.std.proofs.lemmas.List.Sorted.{IsPermutation-map}
use Rattle.rb_search.specs.Waiting.{waiting}
use Rattle.rb_search.proofs.work.push_on.Goals as goal

pub returns : goal.returns
returns c = IsPermutation-map waiting _ _ c.in_ok-push.ensures.permutation
