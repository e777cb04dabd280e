-- Each row is computed.
use Rattle.std.proofs.Common.{refl}
use Rattle.std.specs.Fmt.{digits}
use Rattle.rb_meaning.proofs.rows.messages.Goals as goal

pub returns-clause-private_message : goal.returns-clause-private_message
unfolding digits
returns-clause-private_message c = refl

pub returns-clause-slot_not_free : goal.returns-clause-slot_not_free
unfolding digits
returns-clause-slot_not_free c = refl

pub returns-clause-slot_left_open : goal.returns-clause-slot_left_open
unfolding digits
returns-clause-slot_left_open c = refl

pub returns-clause-room_outside : goal.returns-clause-room_outside
unfolding digits
returns-clause-room_outside c = refl

pub returns-clause-seen_outside : goal.returns-clause-seen_outside
unfolding digits
returns-clause-seen_outside c = refl

pub returns-clause-received_again : goal.returns-clause-received_again
unfolding digits
returns-clause-received_again c = refl

pub returns-clause-two_channels : goal.returns-clause-two_channels
unfolding digits
returns-clause-two_channels c = refl

pub returns-clause-maybe_received : goal.returns-clause-maybe_received
unfolding digits
returns-clause-maybe_received c = refl

pub returns-clause-maybe_received_element : goal.returns-clause-maybe_received_element
unfolding digits
returns-clause-maybe_received_element c = refl

pub returns-clause-index_of_receipt : goal.returns-clause-index_of_receipt
unfolding digits
returns-clause-index_of_receipt c = refl

pub returns-clause-wait_first : goal.returns-clause-wait_first
unfolding digits
returns-clause-wait_first c = refl

pub returns-clause-end_of_wait : goal.returns-clause-end_of_wait
unfolding digits
returns-clause-end_of_wait c = refl
