-- Statuses as the machine keeps them.
use Rattle.rb_world.specs.World.{ProcessStatus as Stands, FailedWith, Finished, Running}
use Rattle.rb_proc.specs.declared.answers.ProcessStatus.{ProcessStatus}
use Rattle.rb_proc.specs.declared.answers.ProcessStatus.TheVariants as status

abbrev pub status_of : ProcessStatus → Stands
status_of status.Running = Running
status_of status.Finished = Finished
status_of (status.Failed cause) = FailedWith cause
