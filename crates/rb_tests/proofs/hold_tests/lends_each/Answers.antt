use Rattle.std.proofs.Common.{rules}
use Rattle.rb_tests.proofs.hold_tests.lends_each.Goals as goal

pub cut_to-requires-clause-prefix : goal.cut_to-requires-clause-prefix
cut_to-requires-clause-prefix c = (2, search rules)
