use Rattle.rb_web.proofs.Verdicts.{texts_decide as decide}
use Rattle.rb_web.proofs.laws.texts_decide.Goals as goal

pub returns : goal.returns
returns c = decide
