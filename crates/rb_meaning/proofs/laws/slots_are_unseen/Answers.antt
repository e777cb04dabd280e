use Rattle.rb_meaning.proofs.laws.slots_are_unseen.Goals as goal
use Rattle.rb_meaning.proofs.Trees.TreeSlots.{slots_are_unseen}

pub returns : goal.returns
returns c = slots_are_unseen
