-- Each row is computed.
use Rattle.std.proofs.Common.{refl}
use Rattle.std.specs.Fmt.{digits}
use Rattle.rb_page.proofs.rows.escapes.Goals as goal

pub returns-clause-markup : goal.returns-clause-markup
unfolding digits
returns-clause-markup c = refl

pub returns-clause-others : goal.returns-clause-others
unfolding digits
returns-clause-others c = refl
