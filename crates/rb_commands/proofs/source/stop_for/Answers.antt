use Rattle.std.proofs.Common.{refl}
use Rattle.rb_verdict.specs.Texts.{bad_source}
use Rattle.rb_commands.proofs.source.stop_for.Goals as goal

pub returns-in-Fault : goal.returns-in-Fault
returns-in-Fault c = (bad_source c.in-Fault.fault (rw c.in-Fault.is at c.requires), refl)
