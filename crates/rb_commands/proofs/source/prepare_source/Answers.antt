use Rattle.rb_prepare.specs.declared.preparing.Prepared.{Prepared}
use Rattle.rb_commands.proofs.Sources.{stops}
use Rattle.rb_commands.proofs.source.prepare_source.Goals as goal

pub returns-in-Err-clause-refused : goal.returns-in-Err-clause-refused
returns-in-Err-clause-refused c = stops Prepared c.args.text.now c.stop_for.result c.stop_for.ensures
