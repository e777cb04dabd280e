use Rattle.std.proofs.Common.{◌≡◌, ◌++◌, drop}
use Rattle.rb_machine.specs.Telling.{ended_by}
use Rattle.rb_recovery.specs.Worlds.{processes_of}
use Rattle.rb_machine.proofs.telling.tell_ended.Given as goal

-- what was told and what is left to tell are the whole
abbrev pub invariant-loop-p : goal.invariant-loop-p
invariant-loop-p g l =
    l.events.items ++ ended_by l.ending l.p (drop l.p l.running) (processes_of (drop l.p l.procs))
    ≡ l.fn.events.items ++ ended_by l.ending 0 l.running (processes_of l.procs)
