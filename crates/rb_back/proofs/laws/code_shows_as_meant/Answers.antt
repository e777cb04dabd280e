use Rattle.rb_back.proofs.AsMeant.{code_shows}
use Rattle.rb_back.proofs.laws.code_shows_as_meant.Goals as goal

pub returns : goal.returns
returns c = code_shows
