use Rattle.std.proofs.Common.{◌≡◌, ◌++◌, ◌+◌, ◌≤◌, length, map, vec_capacity, vec_len}
use Rattle.rb_syntax.specs.Tree.{ChannelDeclaration}
use Rattle.rb_syntax.specs.Plain.{channel_declaration}
use Rattle.rb_resolve.proofs.naming.channel_names.Given as goal

-- those so far and the others, for which there is room
abbrev pub invariant-channels : goal.invariant-channels
invariant-channels l = record {
  all : l.names.items ++ map (λ (c : ChannelDeclaration). c.name.text) (map channel_declaration l.rest)
      ≡ map (λ (c : ChannelDeclaration). c.name.text) (map channel_declaration l.fn.channels);
  room : vec_len l.names + length l.rest ≤ vec_capacity l.names;
}

abbrev pub decreases-channels : goal.decreases-channels
decreases-channels l = length l.rest
