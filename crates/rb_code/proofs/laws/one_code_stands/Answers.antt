use Rattle.rb_code.proofs.Alike.OneCode.{one_code_stands, one_code_with_slots}
use Rattle.rb_code.proofs.laws.one_code_stands.Goals as goal

pub returns : goal.returns
returns c = record { with_slots = one_code_with_slots; stands = one_code_stands }
