use Rattle.rb_meaning.proofs.laws.erasure_in_text.Goals as goal
use Rattle.rb_meaning.proofs.Trees.ErasedText.{erasure_in_text}

pub returns : goal.returns
returns c = erasure_in_text
