use Rattle.rb_conv.proofs.TalksAfterCalls.{talks_are_the_worlds}
use Rattle.rb_conv.proofs.laws.talks_are_the_worlds.Goals as goal

pub returns : goal.returns
returns c = talks_are_the_worlds
