-- Whose turn it is.
use Rattle.std.specs.Prelude.{Bool, false, Option, Some, None}
use Rattle.rb_world.specs.World.{Process}
use Rattle.rb_code.specs.WordMachine.Turn.{Copy, Standing}
use Rattle.rb_machine.specs.Telling.{is_running}

-- a process is there, and runs
abbrev pub runs_there : Option (Process Standing Copy) → Bool
runs_there None = false
runs_there (Some q) = is_running q.status
