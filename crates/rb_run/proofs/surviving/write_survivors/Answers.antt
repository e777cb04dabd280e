-- A record that was written, or not to its end.
use Rattle.rb_run.proofs.Survived.{survives_stopped, survives_written}
use Rattle.rb_run.proofs.surviving.write_survivors.Goals as goal

pub returns-in-Ok : goal.returns-in-Ok
returns-in-Ok g c = survives_written _ _ _ _ _ c.in-Ok.field-0 c.in-Ok.ensures

pub returns-in-Err : goal.returns-in-Err
returns-in-Err g c = survives_stopped _ _ _ _ _ c.in-Err.field-0 c.in-Err.ensures
