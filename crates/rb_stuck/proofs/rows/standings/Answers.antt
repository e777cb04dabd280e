-- Each row is computed.
use Rattle.std.proofs.Common.{refl}
use Rattle.rb_stuck.proofs.rows.standings.Goals as goal

pub returns-clause-all_ended : goal.returns-clause-all_ended
returns-clause-all_ended c = refl

pub returns-clause-goes_on : goal.returns-clause-goes_on
returns-clause-goes_on c = refl

pub returns-clause-deadlock : goal.returns-clause-deadlock
returns-clause-deadlock c = refl

pub returns-clause-from_the_beginning : goal.returns-clause-from_the_beginning
returns-clause-from_the_beginning c = refl

pub returns-clause-no_room : goal.returns-clause-no_room
returns-clause-no_room c = refl

pub returns-clause-at_the_line : goal.returns-clause-at_the_line
returns-clause-at_the_line c = refl

pub returns-clause-bound_next : goal.returns-clause-bound_next
returns-clause-bound_next c = refl

pub returns-clause-behind_the_bound : goal.returns-clause-behind_the_bound
returns-clause-behind_the_bound c = refl

pub returns-clause-inside_a_block : goal.returns-clause-inside_a_block
returns-clause-inside_a_block c = refl

pub returns-clause-may_go_on : goal.returns-clause-may_go_on
returns-clause-may_go_on c = refl
