use Rattle.rb_meaning.proofs.laws.erasure.Goals as goal
use Rattle.rb_meaning.proofs.Trees.TreeErasure.{erasure}

pub returns : goal.returns
returns c = erasure
