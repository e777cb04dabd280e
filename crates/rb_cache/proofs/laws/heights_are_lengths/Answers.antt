use Rattle.rb_cache.proofs.LawsHold.{heights_lengths}
use Rattle.rb_cache.proofs.laws.heights_are_lengths.Goals as goal

pub returns : goal.returns
returns c = heights_lengths
