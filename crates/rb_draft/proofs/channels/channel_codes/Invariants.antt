use Rattle.std.proofs.Common.{◌≡◌, ◌++◌, length, map}
use Rattle.rb_syntax.specs.Plain.{channel_declaration}
use Rattle.rb_code.specs.Instructions.Plain.{channel}
use Rattle.rb_draft.specs.Channels.{ends_by}
use Rattle.rb_draft.proofs.channels.channel_codes.Given as goal

-- those so far, and the others
abbrev pub invariant-channels : goal.invariant-channels
invariant-channels l =
    map channel l.codes.items ++ map (ends_by l.slots) (map channel_declaration l.rest)
    ≡ map (ends_by l.slots) (map channel_declaration l.fn.channels)

abbrev pub decreases-channels : goal.decreases-channels
decreases-channels l = length l.rest
