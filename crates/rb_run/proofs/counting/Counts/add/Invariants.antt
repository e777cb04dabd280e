-- The released lines, and the events so far.
use Rattle.std.proofs.Common.{take}
use Rattle.rb_run.specs.Counting.{IsMore}
use Rattle.rb_run.proofs.counting.Counts.add.Given as goal

abbrev pub invariant-loop-event : goal.invariant-loop-event
invariant-loop-event l = IsMore l.fn.self l.released (take l.event-index l.events) l.self
