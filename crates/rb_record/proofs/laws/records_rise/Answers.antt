use Rattle.rb_record.proofs.Records.{records_rise}
use Rattle.rb_record.proofs.laws.records_rise.Goals as goal

pub returns : goal.returns
returns c = records_rise
