use Rattle.rb_judge.proofs.Accepted.{of_accepted}
use Rattle.rb_judge.proofs.laws.accepted_are_erased_in_text.Goals as goal
use Rattle.rb_meaning.proofs.Trees.ErasedText.{erasure_in_text}
use Rattle.rb_meaning.specs.Laws.{IsErasedInText}

pub returns : goal.returns
returns c = of_accepted IsErasedInText erasure_in_text
