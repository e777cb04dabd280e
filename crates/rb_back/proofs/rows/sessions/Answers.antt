-- Each row is computed.
use Rattle.std.proofs.Common.{refl}
use Rattle.std.specs.Fmt.{digits}
use Rattle.rb_back.proofs.rows.sessions.Goals as goal

pub returns-clause-rejection : goal.returns-clause-rejection
unfolding digits
returns-clause-rejection c = refl

pub returns-clause-entry : goal.returns-clause-entry
unfolding digits
returns-clause-entry c = refl

pub returns-clause-from_end_to_end : goal.returns-clause-from_end_to_end
unfolding digits
returns-clause-from_end_to_end c = refl

pub returns-clause-nothing_shown : goal.returns-clause-nothing_shown
unfolding digits
returns-clause-nothing_shown c = refl

pub returns-clause-empty_text : goal.returns-clause-empty_text
unfolding digits
returns-clause-empty_text c = refl

pub returns-clause-comments : goal.returns-clause-comments
unfolding digits
returns-clause-comments c = refl

pub returns-clause-rejected_conversation : goal.returns-clause-rejected_conversation
unfolding digits
returns-clause-rejected_conversation c = refl

pub returns-clause-passed_conversation : goal.returns-clause-passed_conversation
unfolding digits
returns-clause-passed_conversation c = refl

pub returns-clause-failed : goal.returns-clause-failed
unfolding digits
returns-clause-failed c = refl

pub returns-clause-received : goal.returns-clause-received
unfolding digits
returns-clause-received c = refl
