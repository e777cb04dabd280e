-- What the load of a code asks of its processes, and what each of them is before its first turn.
use Rattle.std.specs.Prelude.{ℕ, ◌<◌, List, [], length}
use Rattle.rb_world.specs.Kind.{Membership}
use Rattle.rb_world.specs.World.{settled}
use Rattle.rb_code.specs.WordMachine.Workspace.{part_of}
use Rattle.rb_code.specs.Instructions.Plain.{Code}
use Rattle.rb_code.specs.SoundCode.Stands.{SettlesSoundly}
use Rattle.rb_code.specs.WordMachine.Turn.{Standing}
use Rattle.rb_code.specs.WordMachine.WordRun.{opening_standing}
use Rattle.rb_proc.specs.Process.{Seen, kind_of}

-- each process settles at the address of its body
abbrev pub AllSettle : Code → Type 0
AllSettle c = (p : ℕ) → p < length c.processes → (groups : List Membership) × SettlesSoundly c groups (opening_standing p (part_of c p)) []

-- a process that starts so, once it has settled, with no line that waits
abbrev pub first_seen : Code → Standing → Seen
first_seen c s = record { process = settled (kind_of c) s []; waiting = [] }
