use Rattle.std.proofs.Common.{◌≡◌, ◌++◌, length, map}
use Rattle.std.specs.List.{flat_map}
use Rattle.rb_syntax.specs.Plain.{channel_declaration, tree}
use Rattle.rb_meaning.specs.Groups.{channels_of, ends_of}
use Rattle.rb_scope.specs.Finding.{first_after}
use Rattle.rb_uses.specs.Members.{ends_alone}
use Rattle.rb_nest.specs.Rules.{channel_faults}
use Rattle.rb_uses.proofs.ends.ends_of_channels.Given as goal

-- the ends so far and what is found, and then those of the other channels
abbrev pub invariant-channels : goal.invariant-channels
invariant-channels l =
    let whole = tree l.program in
    let others = map channel_declaration l.rest in
    record {
      ends : l.all.items ++ map ends_alone (map (ends_of whole) others) ≡ map ends_alone (channels_of whole);
      found : first_after l.first (flat_map (channel_faults whole) others) ≡ first_after l.fn.first (flat_map (channel_faults whole) whole.channels);
    }

abbrev pub decreases-channels : goal.decreases-channels
decreases-channels l = length l.rest
