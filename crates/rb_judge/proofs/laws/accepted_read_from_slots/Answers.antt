use Rattle.rb_judge.proofs.Accepted.{of_accepted}
use Rattle.rb_judge.proofs.laws.accepted_read_from_slots.Goals as goal
use Rattle.rb_meaning.proofs.Trees.TreeSlots.{slots_are_read}
use Rattle.rb_meaning.specs.Laws.{ReadsFromSlots}

pub returns : goal.returns
returns c = of_accepted ReadsFromSlots slots_are_read
