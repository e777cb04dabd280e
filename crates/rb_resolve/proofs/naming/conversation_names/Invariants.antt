use Rattle.std.proofs.Common.{◌≡◌, ◌++◌, ◌+◌, ◌≤◌, length, map, vec_capacity, vec_len}
use Rattle.rb_syntax.specs.Tree.{ConversationDeclaration}
use Rattle.rb_syntax.specs.Plain.{conversation_declaration}
use Rattle.rb_resolve.proofs.naming.conversation_names.Given as goal

-- those so far and the others, for which there is room
abbrev pub invariant-conversations : goal.invariant-conversations
invariant-conversations l = record {
  all : l.names.items ++ map (λ (c : ConversationDeclaration). c.name.text) (map conversation_declaration l.rest)
      ≡ map (λ (c : ConversationDeclaration). c.name.text) (map conversation_declaration l.fn.conversations);
  room : vec_len l.names + length l.rest ≤ vec_capacity l.names;
}

abbrev pub decreases-conversations : goal.decreases-conversations
decreases-conversations l = length l.rest
