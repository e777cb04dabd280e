use Rattle.std.proofs.Common.{sym, ◌∙◌}
use Rattle.rb_syntax.specs.Plain.{conversation_declaration}
use Rattle.rb_syntax.specs.Tree.{ConversationDeclaration}
use Rattle.rb_scope.proofs.Long.{long_copy}
use Rattle.rb_resolve.proofs.lists.count_conversations.Goals as goal

pub returns-then-conversations-gt-MOST_CONNECTIONS : goal.returns-then-conversations-gt-MOST_CONNECTIONS
returns-then-conversations-gt-MOST_CONNECTIONS c =
    c.note.ensures ∙ sym
    (long_copy conversation_declaration
    (λ (one : ConversationDeclaration). one.name.place) 64 c.args.finder.now c.args.conversations.now _ c.if-conversations-gt-MOST_CONNECTIONS.true)
