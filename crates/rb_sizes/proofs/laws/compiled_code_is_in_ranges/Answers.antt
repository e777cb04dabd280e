use Rattle.rb_sizes.proofs.Ranging.InRanges.{compiled_code_is_in_ranges}
use Rattle.rb_sizes.proofs.laws.compiled_code_is_in_ranges.Goals as goal

pub returns : goal.returns
returns c = compiled_code_is_in_ranges
