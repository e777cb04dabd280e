use Rattle.std.proofs.Common.{◌≡◌, ◌↔◌, drop, map}
use Rattle.rb_code.specs.Agreement.StandsFor.{channels_from}
use Rattle.rb_code.specs.Instructions.Plain.{channel as plain_channel}
use Rattle.rb_lists.proofs.channels.lists.Given as goal

-- all are as listed where those that are left are
abbrev pub invariant-loop-number : goal.invariant-loop-number
invariant-loop-number l =
    (l.listed ≡ channels_from l.process 0 (map plain_channel l.channels))
    ↔ (l.left ≡ channels_from l.process l.number (map plain_channel (drop l.number l.channels)))
