use Rattle.rb_judge.proofs.Accepted.{of_accepted}
use Rattle.rb_judge.proofs.laws.accepted_try_together.Goals as goal
use Rattle.rb_meaning.proofs.Knowing.AlternatesTriedTogether.{tried_together}
use Rattle.rb_meaning.specs.Laws.{TriesTogether}

pub returns : goal.returns
returns c = of_accepted TriesTogether tried_together
