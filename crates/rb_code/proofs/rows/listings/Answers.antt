-- Each listing is computed.
use Rattle.std.proofs.Common.{refl}
use Rattle.std.specs.Fmt.{digits}
use Rattle.rb_code.proofs.rows.listings.Goals as goal

pub returns-clause-smallest : goal.returns-clause-smallest
unfolding digits
returns-clause-smallest c = refl

pub returns-clause-one_rejection : goal.returns-clause-one_rejection
unfolding digits
returns-clause-one_rejection c = refl
