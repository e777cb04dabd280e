use Rattle.rb_cache.proofs.LawsHold.{grown}
use Rattle.rb_cache.proofs.laws.growing_keeps_copies.Goals as goal

pub returns : goal.returns
returns c = grown
