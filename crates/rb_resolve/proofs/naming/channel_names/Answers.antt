use Rattle.std.proofs.Common.{List, ℕ, [], ◌∷◌, ◌++◌, map, ap, refl, ◌∙◌}
use Rattle.rb_syntax.specs.declared.program.Channel.{Channel}
use Rattle.rb_syntax.specs.Plain.{channel_declaration}
use Rattle.rb_syntax.specs.Tree.{ChannelDeclaration}
use Rattle.rb_resolve.proofs.Named.{fewer_left, named_end, named_step, room_after}
use Rattle.rb_resolve.proofs.naming.channel_names.Goals as goal

abbrev others : List Channel → List (List ℕ)
others xs = map (λ (c : ChannelDeclaration). c.name.text) (map channel_declaration xs)

pub channels-preserved : goal.channels-preserved
channels-preserved c =
    let rest = c.channels.rest.now in
    record {
      all = named_step others others rest _ _ _ c.channels.names.items _ _ (λ xs. refl) c.in-len1-up.len_at_least refl
          (c.push_reserved.ensures.items ∙ ap (λ name. c.channels.names.items ++ (name ∷ [])) c.in_ok-from_slice.ensures) c.channels.invariant.all;
      room = room_after rest _ _ _ _ c.in-len1-up.len_at_least c.push_reserved.ensures.len c.push_reserved.ensures.capacity
          c.channels.invariant.room;
    }

pub channels-smaller : goal.channels-smaller
channels-smaller c = fewer_left c.channels.rest.now c.in-len1-up.len_at_least

pub returns : goal.returns
returns c = named_end others c.channels.rest.now c.channels.names.items _ refl c.in_default.len_below c.channels.invariant.all
