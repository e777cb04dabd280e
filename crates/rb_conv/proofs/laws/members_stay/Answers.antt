use Rattle.rb_conv.proofs.TalksAfterCalls.{members_stay}
use Rattle.rb_conv.proofs.laws.members_stay.Goals as goal

pub returns : goal.returns
returns c = members_stay
