use Rattle.std.proofs.Common.{◌≡◌, ◌++◌, length}
use Rattle.rb_frame.specs.Frame.{shown}
use Rattle.rb_frame.proofs.joined.shown.Given as goal

-- the bytes so far and those that are left are all
abbrev pub invariant-loop-rest : goal.invariant-loop-rest
invariant-loop-rest l = l.text.items ++ shown l.rest ≡ shown l.bytes

abbrev pub decreases-loop-rest : goal.decreases-loop-rest
decreases-loop-rest l = length l.rest
