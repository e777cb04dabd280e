-- Each row is computed.
use Rattle.std.proofs.Common.{refl}
use Rattle.std.specs.Fmt.{digits}
use Rattle.rb_back.proofs.rows.first_faults.Goals as goal

pub returns-clause-unknown_verb : goal.returns-clause-unknown_verb
unfolding digits
returns-clause-unknown_verb c = refl

pub returns-clause-without_number : goal.returns-clause-without_number
unfolding digits
returns-clause-without_number c = refl

pub returns-clause-two_numbers : goal.returns-clause-two_numbers
unfolding digits
returns-clause-two_numbers c = refl

pub returns-clause-no_turns : goal.returns-clause-no_turns
unfolding digits
returns-clause-no_turns c = refl

pub returns-clause-too_many : goal.returns-clause-too_many
unfolding digits
returns-clause-too_many c = refl

pub returns-clause-no_number : goal.returns-clause-no_number
unfolding digits
returns-clause-no_number c = refl

pub returns-clause-no_name : goal.returns-clause-no_name
unfolding digits
returns-clause-no_name c = refl

pub returns-clause-unknown_process : goal.returns-clause-unknown_process
unfolding digits
returns-clause-unknown_process c = refl

pub returns-clause-past_the_last : goal.returns-clause-past_the_last
unfolding digits
returns-clause-past_the_last c = refl

pub returns-clause-past_the_first : goal.returns-clause-past_the_first
unfolding digits
returns-clause-past_the_first c = refl

pub returns-clause-the_greatest : goal.returns-clause-the_greatest
unfolding digits
returns-clause-the_greatest c = refl

pub returns-clause-first_of_lines : goal.returns-clause-first_of_lines
unfolding digits
returns-clause-first_of_lines c = refl
