use Rattle.std.proofs.Common.{◌≡◌, length, map}
use Rattle.rb_syntax.specs.Plain.{conversation_declaration}
use Rattle.rb_scope.specs.Scopes.{conversations_from, in_text_order}
use Rattle.rb_scope.specs.Memory.{all_held}
use Rattle.rb_faults.proofs.rows.place_conversations.Given as goal

-- those so far have their places, and the others take theirs
abbrev pub invariant-conversations : goal.invariant-conversations
invariant-conversations l =
    in_text_order (conversations_from l.number (map conversation_declaration l.rest)) (all_held l.declared.items)
    ≡ in_text_order (conversations_from 0 (map conversation_declaration l.fn.conversations)) (all_held l.fn.declared.items)

abbrev pub decreases-conversations : goal.decreases-conversations
decreases-conversations l = length l.rest
