use Rattle.std.proofs.Common.{◌≡◌, ◌++◌, length, map}
use Rattle.rb_syntax.specs.Plain.{channel_declaration}
use Rattle.rb_scope.specs.Scopes.{channels_from}
use Rattle.rb_scope.specs.Memory.{all_held}
use Rattle.rb_faults.proofs.rows.add_channels.Given as goal

-- those so far, and the others
abbrev pub invariant-channels : goal.invariant-channels
invariant-channels l =
    all_held l.declared.items ++ channels_from l.number (map channel_declaration l.rest)
    ≡ all_held l.fn.declared.items ++ channels_from 0 (map channel_declaration l.fn.channels)

abbrev pub decreases-channels : goal.decreases-channels
decreases-channels l = length l.rest
