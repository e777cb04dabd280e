use Rattle.std.proofs.Common.{List, ℕ, [], ◌∷◌, ◌++◌, map, ap, refl, ◌∙◌}
use Rattle.rb_syntax.specs.declared.program.Conversation.{Conversation}
use Rattle.rb_syntax.specs.Plain.{conversation_declaration}
use Rattle.rb_syntax.specs.Tree.{ConversationDeclaration}
use Rattle.rb_resolve.proofs.Named.{fewer_left, named_end, named_step, room_after}
use Rattle.rb_resolve.proofs.naming.conversation_names.Goals as goal

abbrev others : List Conversation → List (List ℕ)
others xs = map (λ (c : ConversationDeclaration). c.name.text) (map conversation_declaration xs)

pub conversations-preserved : goal.conversations-preserved
conversations-preserved c =
    let rest = c.conversations.rest.now in
    record {
      all = named_step others others rest c.conversation-item.result _ _ c.conversations.names.items _ _ (λ xs. refl)
          c.in-len1-up.len_at_least c.conversation-item.is
          (c.push_reserved.ensures.items ∙ ap (λ name. c.conversations.names.items ++ (name ∷ [])) c.in_ok-from_slice.ensures) c.conversations.invariant.all;
      room = room_after rest _ _ _ _ c.in-len1-up.len_at_least c.push_reserved.ensures.len c.push_reserved.ensures.capacity
          c.conversations.invariant.room;
    }

pub conversations-smaller : goal.conversations-smaller
conversations-smaller c = fewer_left c.conversations.rest.now c.in-len1-up.len_at_least

pub returns : goal.returns
returns c = named_end others c.conversations.rest.now c.conversations.names.items _ refl c.in_default.len_below c.conversations.invariant.all
