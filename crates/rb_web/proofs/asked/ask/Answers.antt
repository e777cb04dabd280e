use Rattle.std.proofs.Common.{subst}
use Rattle.rb_web.specs.Asked.{AreWords}
use Rattle.rb_web.specs.Called.{no_memory}
use Rattle.rb_web.proofs.asked.ask.Goals as goal

pub returns-in-Err-clause-ends : goal.returns-in-Err-clause-ends
returns-in-Err-clause-ends c =
    let given = c.in-Some.ensures.1 in
    no_memory given.0 (subst (λ bytes. AreWords bytes given.0) c.in-Some.ensures.0 given.1) c.nothing_but-in-Err.ensures
