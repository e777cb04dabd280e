use Rattle.rb_judge.proofs.Accepted.{of_accepted}
use Rattle.rb_judge.proofs.laws.accepted_hold_messages_in_slots.Goals as goal
use Rattle.rb_meaning.proofs.Trees.TreeSlots.{slots_hold_messages}
use Rattle.rb_meaning.specs.Laws.{HoldsMessagesInSlots}

pub returns : goal.returns
returns c = of_accepted HoldsMessagesInSlots slots_hold_messages
