use Rattle.rb_meaning.proofs.laws.slots_are_read.Goals as goal
use Rattle.rb_meaning.proofs.Trees.TreeSlots.{slots_are_read}

pub returns : goal.returns
returns c = slots_are_read
