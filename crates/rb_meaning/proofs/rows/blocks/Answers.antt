-- Each row is computed.
use Rattle.std.proofs.Common.{refl}
use Rattle.std.specs.Fmt.{digits}
use Rattle.rb_meaning.proofs.rows.blocks.Goals as goal

pub returns-clause-smallest : goal.returns-clause-smallest
unfolding digits
returns-clause-smallest c = refl

pub returns-clause-empty : goal.returns-clause-empty
unfolding digits
returns-clause-empty c = refl

pub returns-clause-one_rejection : goal.returns-clause-one_rejection
unfolding digits
returns-clause-one_rejection c = refl

pub returns-clause-merge : goal.returns-clause-merge
unfolding digits
returns-clause-merge c = refl

pub returns-clause-prior_across_a_merge : goal.returns-clause-prior_across_a_merge
unfolding digits
returns-clause-prior_across_a_merge c = refl

pub returns-clause-exhausted : goal.returns-clause-exhausted
unfolding digits
returns-clause-exhausted c = refl

pub returns-clause-the_bound : goal.returns-clause-the_bound
unfolding digits
returns-clause-the_bound c = refl

pub returns-clause-outer_bound : goal.returns-clause-outer_bound
unfolding digits
returns-clause-outer_bound c = refl

pub returns-clause-two_bounds : goal.returns-clause-two_bounds
unfolding digits
returns-clause-two_bounds c = refl

pub returns-clause-as_a_user_writes_it : goal.returns-clause-as_a_user_writes_it
unfolding digits
returns-clause-as_a_user_writes_it c = refl

pub returns-clause-cascade : goal.returns-clause-cascade
unfolding digits
returns-clause-cascade c = refl

pub returns-clause-inside_a_call : goal.returns-clause-inside_a_call
unfolding digits
returns-clause-inside_a_call c = refl

pub returns-clause-held_lines : goal.returns-clause-held_lines
unfolding digits
returns-clause-held_lines c = refl

pub returns-clause-nothing_to_print : goal.returns-clause-nothing_to_print
unfolding digits
returns-clause-nothing_to_print c = refl
