use Rattle.std.proofs.Common.{◌≡◌, ◌++◌, length, map}
use Rattle.rb_code.specs.Instructions.Plain.{channel}
use Rattle.rb_code.specs.Agreement.StandsFor.{channels_from}
use Rattle.rb_draft.proofs.channels.channels_of.Given as goal

-- those so far, and what the others give
abbrev pub invariant-channels : goal.invariant-channels
invariant-channels l =
    l.numbers.items ++ channels_from l.process l.number (map channel l.rest) ≡ channels_from l.process 0 (map channel l.fn.channels)

abbrev pub decreases-channels : goal.decreases-channels
decreases-channels l = length l.rest
