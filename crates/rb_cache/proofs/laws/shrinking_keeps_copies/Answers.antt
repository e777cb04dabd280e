use Rattle.rb_cache.proofs.LawsHold.{shrunk}
use Rattle.rb_cache.proofs.laws.shrinking_keeps_copies.Goals as goal

pub returns : goal.returns
returns c = shrunk
