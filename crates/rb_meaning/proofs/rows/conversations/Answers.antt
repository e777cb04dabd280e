-- Each row is computed.
use Rattle.std.proofs.Common.{refl}
use Rattle.std.specs.Fmt.{digits}
use Rattle.rb_meaning.proofs.rows.conversations.Goals as goal

pub returns-clause-one_conversation : goal.returns-clause-one_conversation
unfolding digits
returns-clause-one_conversation c = refl

pub returns-clause-late_member : goal.returns-clause-late_member
unfolding digits
returns-clause-late_member c = refl

pub returns-clause-nested_conversation : goal.returns-clause-nested_conversation
unfolding digits
returns-clause-nested_conversation c = refl

pub returns-clause-broken_conversation : goal.returns-clause-broken_conversation
unfolding digits
returns-clause-broken_conversation c = refl

pub returns-clause-broken_for_three : goal.returns-clause-broken_for_three
unfolding digits
returns-clause-broken_for_three c = refl

pub returns-clause-overrun_at_the_line : goal.returns-clause-overrun_at_the_line
unfolding digits
returns-clause-overrun_at_the_line c = refl

pub returns-clause-exhausted_inside : goal.returns-clause-exhausted_inside
unfolding digits
returns-clause-exhausted_inside c = refl

pub returns-clause-undone_inside : goal.returns-clause-undone_inside
unfolding digits
returns-clause-undone_inside c = refl

pub returns-clause-first_again : goal.returns-clause-first_again
unfolding digits
returns-clause-first_again c = refl

pub returns-clause-first_again_further : goal.returns-clause-first_again_further
unfolding digits
returns-clause-first_again_further c = refl

pub returns-clause-fewer_inside : goal.returns-clause-fewer_inside
unfolding digits
returns-clause-fewer_inside c = refl

pub returns-clause-private_inside : goal.returns-clause-private_inside
unfolding digits
returns-clause-private_inside c = refl

pub returns-clause-not_yet_inside : goal.returns-clause-not_yet_inside
unfolding digits
returns-clause-not_yet_inside c = refl

pub returns-clause-full_channel_inside : goal.returns-clause-full_channel_inside
unfolding digits
returns-clause-full_channel_inside c = refl
