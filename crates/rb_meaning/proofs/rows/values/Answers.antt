-- Each row is computed.
use Rattle.std.proofs.Common.{refl}
use Rattle.std.specs.Fmt.{digits}
use Rattle.rb_meaning.proofs.rows.values.Goals as goal

pub returns-clause-short_circuit : goal.returns-clause-short_circuit
unfolding digits
returns-clause-short_circuit c = refl

pub returns-clause-division : goal.returns-clause-division
unfolding digits
returns-clause-division c = refl

pub returns-clause-comparisons : goal.returns-clause-comparisons
unfolding digits
returns-clause-comparisons c = refl

pub returns-clause-index_first : goal.returns-clause-index_first
unfolding digits
returns-clause-index_first c = refl

pub returns-clause-scopes : goal.returns-clause-scopes
unfolding digits
returns-clause-scopes c = refl

pub returns-clause-arguments : goal.returns-clause-arguments
unfolding digits
returns-clause-arguments c = refl

pub returns-clause-choices : goal.returns-clause-choices
unfolding digits
returns-clause-choices c = refl

pub returns-clause-quantified : goal.returns-clause-quantified
unfolding digits
returns-clause-quantified c = refl

pub returns-clause-long_range : goal.returns-clause-long_range
unfolding digits
returns-clause-long_range c = refl

pub returns-clause-longest_range : goal.returns-clause-longest_range
unfolding digits
returns-clause-longest_range c = refl

pub returns-clause-stops_early : goal.returns-clause-stops_early
unfolding digits
returns-clause-stops_early c = refl
