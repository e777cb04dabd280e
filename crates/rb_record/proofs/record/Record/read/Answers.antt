use Rattle.rb_base.specs.Naming.{process_names}
use Rattle.rb_record.proofs.Records.{records_rise}
use Rattle.rb_record.proofs.record.Record.read.Goals as goal

pub returns-clause-few : goal.returns-clause-few
returns-clause-few c = (records_rise (process_names c.args.names.now) c.args.text.now _ c.in_ok-turns.ensures).1
