-- No line end was passed.
use Rattle.std.proofs.Common.{◌≤◌, drop, length}
use Rattle.rb_hold.specs.Held.{IsLine}
use Rattle.rb_hold.proofs.hold.looking.start_of_last.Given as goal

abbrev pub decreases-back : goal.decreases-back
decreases-back l = l.start

abbrev pub invariant-back : goal.invariant-back
invariant-back l = record { within : l.start ≤ length l.bytes; line : IsLine (drop l.start l.bytes) }
