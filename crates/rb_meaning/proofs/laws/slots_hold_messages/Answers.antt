use Rattle.rb_meaning.proofs.laws.slots_hold_messages.Goals as goal
use Rattle.rb_meaning.proofs.Trees.TreeSlots.{slots_hold_messages}

pub returns : goal.returns
returns c = slots_hold_messages
