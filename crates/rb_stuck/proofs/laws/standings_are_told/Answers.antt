use Rattle.rb_stuck.proofs.AsTold.{standing_told}
use Rattle.rb_stuck.proofs.laws.standings_are_told.Goals as goal

pub returns : goal.returns
returns c = standing_told
