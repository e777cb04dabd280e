use Rattle.std.proofs.Common.{ℕ, List, ◌++◌, drop}
use Rattle.rb_show.specs.Faulted.{AreReasons}
use Rattle.rb_show.proofs.faults.reasons.Given as goal

-- the reasons so far and those for the faults that are left are all
abbrev pub invariant-loop-fault : goal.invariant-loop-fault
invariant-loop-fault l =
    (text : List ℕ) → AreReasons l.file l.source (drop l.fault-index l.faults) text → AreReasons l.file l.source l.faults (l.told.items ++ text)
