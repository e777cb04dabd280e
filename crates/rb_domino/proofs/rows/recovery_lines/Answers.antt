-- Each row is computed.
use Rattle.std.proofs.Common.{refl}
use Rattle.std.specs.Fmt.{digits}
use Rattle.rb_domino.proofs.rows.recovery_lines.Goals as goal

pub returns-clause-domino : goal.returns-clause-domino
unfolding digits
returns-clause-domino c = refl

pub returns-clause-without_last_message : goal.returns-clause-without_last_message
unfolding digits
returns-clause-without_last_message c = refl

pub returns-clause-uncontrolled : goal.returns-clause-uncontrolled
unfolding digits
returns-clause-uncontrolled c = refl

pub returns-clause-given_again : goal.returns-clause-given_again
unfolding digits
returns-clause-given_again c = refl

pub returns-clause-to_the_failed : goal.returns-clause-to_the_failed
unfolding digits
returns-clause-to_the_failed c = refl

pub returns-clause-point_behind_take : goal.returns-clause-point_behind_take
unfolding digits
returns-clause-point_behind_take c = refl

pub returns-clause-without_messages : goal.returns-clause-without_messages
unfolding digits
returns-clause-without_messages c = refl

pub returns-clause-alone : goal.returns-clause-alone
unfolding digits
returns-clause-alone c = refl

pub returns-clause-fails_at_once : goal.returns-clause-fails_at_once
unfolding digits
returns-clause-fails_at_once c = refl

pub returns-clause-by_their_takes : goal.returns-clause-by_their_takes
unfolding digits
returns-clause-by_their_takes c = refl

pub returns-clause-to_oneself : goal.returns-clause-to_oneself
unfolding digits
returns-clause-to_oneself c = refl
