-- Each row is computed.
use Rattle.std.proofs.Common.{refl}
use Rattle.std.specs.Fmt.{digits}
use Rattle.rb_domino.proofs.rows.first_faults.Goals as goal

pub returns-clause-unknown_word : goal.returns-clause-unknown_word
unfolding digits
returns-clause-unknown_word c = refl

pub returns-clause-stray_return : goal.returns-clause-stray_return
unfolding digits
returns-clause-stray_return c = refl

pub returns-clause-long_name : goal.returns-clause-long_name
unfolding digits
returns-clause-long_name c = refl

pub returns-clause-unknown_process : goal.returns-clause-unknown_process
unfolding digits
returns-clause-unknown_process c = refl

pub returns-clause-least_of_line : goal.returns-clause-least_of_line
unfolding digits
returns-clause-least_of_line c = refl

pub returns-clause-two_of_one_name : goal.returns-clause-two_of_one_name
unfolding digits
returns-clause-two_of_one_name c = refl

pub returns-clause-taken_by_nobody : goal.returns-clause-taken_by_nobody
unfolding digits
returns-clause-taken_by_nobody c = refl

pub returns-clause-taken_twice : goal.returns-clause-taken_twice
unfolding digits
returns-clause-taken_twice c = refl

pub returns-clause-behind_failure : goal.returns-clause-behind_failure
unfolding digits
returns-clause-behind_failure c = refl

pub returns-clause-fault_behind_failure : goal.returns-clause-fault_behind_failure
unfolding digits
returns-clause-fault_behind_failure c = refl

pub returns-clause-no_failure : goal.returns-clause-no_failure
unfolding digits
returns-clause-no_failure c = refl

pub returns-clause-empty_text : goal.returns-clause-empty_text
unfolding digits
returns-clause-empty_text c = refl
