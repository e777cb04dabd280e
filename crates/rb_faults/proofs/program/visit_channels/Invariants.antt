use Rattle.std.proofs.Common.{◌≡◌, length, map}
use Rattle.std.specs.List.{flat_map}
use Rattle.rb_syntax.specs.Plain.{channel_declaration}
use Rattle.rb_scope.specs.Sites.{channel_sites}
use Rattle.rb_faults.specs.Finding.{visited}
use Rattle.rb_faults.specs.Memory.{spot_of}
use Rattle.rb_faults.proofs.program.visit_channels.Given as goal

-- what is found, and then behind the others
abbrev pub invariant-channels : goal.invariant-channels
invariant-channels l =
    visited l.finder (flat_map (channel_sites (spot_of l.spot)) (map channel_declaration l.rest))
    ≡ visited l.fn.finder (flat_map (channel_sites (spot_of l.spot)) (map channel_declaration l.fn.all))

abbrev pub decreases-channels : goal.decreases-channels
decreases-channels l = length l.rest
