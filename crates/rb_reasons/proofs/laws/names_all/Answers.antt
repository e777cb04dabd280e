use Rattle.rb_reasons.proofs.Named.{fault_named, cause_named}
use Rattle.rb_reasons.proofs.laws.names_all.Goals as goal

pub returns : goal.returns
returns c = record { faults = fault_named; causes = cause_named }
