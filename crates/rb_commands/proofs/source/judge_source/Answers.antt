use Rattle.rb_judge.specs.declared.judging.Judged.{Judged}
use Rattle.rb_commands.proofs.Sources.{stops}
use Rattle.rb_commands.proofs.source.judge_source.Goals as goal

pub returns-in-Err-clause-refused : goal.returns-in-Err-clause-refused
returns-in-Err-clause-refused c = stops Judged c.args.text.now c.stop_for.result c.stop_for.ensures
