-- Each row is computed.
use Rattle.std.proofs.Common.{refl}
use Rattle.std.specs.Fmt.{digits}
use Rattle.rb_meaning.proofs.rows.survivors.Goals as goal

pub returns-clause-survivors_of_one_rejection : goal.returns-clause-survivors_of_one_rejection
unfolding digits
returns-clause-survivors_of_one_rejection c = refl

pub returns-clause-survivors_of_exhausted : goal.returns-clause-survivors_of_exhausted
unfolding digits
returns-clause-survivors_of_exhausted c = refl

pub returns-clause-survivors_of_a_private_message : goal.returns-clause-survivors_of_a_private_message
unfolding digits
returns-clause-survivors_of_a_private_message c = refl

pub returns-clause-survivors_of_a_conversation : goal.returns-clause-survivors_of_a_conversation
unfolding digits
returns-clause-survivors_of_a_conversation c = refl

pub returns-clause-survivors_of_maybe_received : goal.returns-clause-survivors_of_maybe_received
unfolding digits
returns-clause-survivors_of_maybe_received c = refl

pub returns-clause-plain_one_rejection : goal.returns-clause-plain_one_rejection
unfolding digits
returns-clause-plain_one_rejection c = refl

pub returns-clause-plain_exhausted : goal.returns-clause-plain_exhausted
unfolding digits
returns-clause-plain_exhausted c = refl

pub returns-clause-plain_private_message : goal.returns-clause-plain_private_message
unfolding digits
returns-clause-plain_private_message c = refl

pub returns-clause-plain_conversation : goal.returns-clause-plain_conversation
unfolding digits
returns-clause-plain_conversation c = refl

pub returns-clause-plain_nested_conversation : goal.returns-clause-plain_nested_conversation
unfolding digits
returns-clause-plain_nested_conversation c = refl

pub returns-clause-plain_maybe_received : goal.returns-clause-plain_maybe_received
unfolding digits
returns-clause-plain_maybe_received c = refl

pub returns-clause-plain_full_channel_inside : goal.returns-clause-plain_full_channel_inside
unfolding digits
returns-clause-plain_full_channel_inside c = refl

pub returns-clause-plain_not_yet_inside : goal.returns-clause-plain_not_yet_inside
unfolding digits
returns-clause-plain_not_yet_inside c = refl

pub returns-clause-plain_fewer_inside : goal.returns-clause-plain_fewer_inside
unfolding digits
returns-clause-plain_fewer_inside c = refl

pub returns-clause-plain_record : goal.returns-clause-plain_record
unfolding digits
returns-clause-plain_record c = refl

pub returns-clause-plain_left_open : goal.returns-clause-plain_left_open
unfolding digits
returns-clause-plain_left_open c = refl

pub returns-clause-stuck_at_test : goal.returns-clause-stuck_at_test
unfolding digits
returns-clause-stuck_at_test c = refl

pub returns-clause-stuck_without_alternate : goal.returns-clause-stuck_without_alternate
unfolding digits
returns-clause-stuck_without_alternate c = refl

pub returns-clause-stuck_with_a_third_alternate : goal.returns-clause-stuck_with_a_third_alternate
unfolding digits
returns-clause-stuck_with_a_third_alternate c = refl

pub returns-clause-stuck_with_an_alternate : goal.returns-clause-stuck_with_an_alternate
unfolding digits
returns-clause-stuck_with_an_alternate c = refl

pub returns-clause-stuck_when_done : goal.returns-clause-stuck_when_done
unfolding digits
returns-clause-stuck_when_done c = refl

pub returns-clause-stuck_at_a_wait : goal.returns-clause-stuck_at_a_wait
unfolding digits
returns-clause-stuck_at_a_wait c = refl

pub returns-clause-stuck_at_a_trap : goal.returns-clause-stuck_at_a_trap
unfolding digits
returns-clause-stuck_at_a_trap c = refl

pub returns-clause-stuck_without_room : goal.returns-clause-stuck_without_room
unfolding digits
returns-clause-stuck_without_room c = refl

pub returns-clause-stuck_at_the_line : goal.returns-clause-stuck_at_the_line
unfolding digits
returns-clause-stuck_at_the_line c = refl
