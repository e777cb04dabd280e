-- Each row is computed.
use Rattle.std.proofs.Common.{refl}
use Rattle.std.specs.Fmt.{digits}
use Rattle.rb_meaning.proofs.rows.limits.Goals as goal

pub returns-clause-traps_in_turn : goal.returns-clause-traps_in_turn
unfolding digits
returns-clause-traps_in_turn c = refl

pub returns-clause-open_calls : goal.returns-clause-open_calls
unfolding digits
returns-clause-open_calls c = refl

pub returns-clause-calls_before_words : goal.returns-clause-calls_before_words
unfolding digits
returns-clause-calls_before_words c = refl

pub returns-clause-held_bytes : goal.returns-clause-held_bytes
unfolding digits
returns-clause-held_bytes c = refl

pub returns-clause-fail_outside : goal.returns-clause-fail_outside
unfolding digits
returns-clause-fail_outside c = refl

pub returns-clause-full_process : goal.returns-clause-full_process
unfolding digits
returns-clause-full_process c = refl

pub returns-clause-full_blocks : goal.returns-clause-full_blocks
unfolding digits
returns-clause-full_blocks c = refl

pub returns-clause-full_blocks_of_edition_2 : goal.returns-clause-full_blocks_of_edition_2
unfolding digits
returns-clause-full_blocks_of_edition_2 c = refl

pub returns-clause-open_levels : goal.returns-clause-open_levels
unfolding digits
returns-clause-open_levels c = refl
