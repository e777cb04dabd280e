-- Each row is computed.
use Rattle.std.proofs.Common.{refl}
use Rattle.std.specs.Fmt.{digits}
use Rattle.rb_picture.proofs.rows.traces.Goals as goal

pub returns-clause-first_turns : goal.returns-clause-first_turns
unfolding digits
returns-clause-first_turns c = refl

pub returns-clause-rejection : goal.returns-clause-rejection
unfolding digits
returns-clause-rejection c = refl
