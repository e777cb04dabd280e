use Rattle.std.proofs.Common.{sym, ◌∙◌}
use Rattle.rb_syntax.specs.Plain.{conversation_declaration}
use Rattle.rb_syntax.specs.Tree.{ConversationDeclaration}
use Rattle.rb_faults.proofs.Long.{long_copy}
use Rattle.rb_faults.proofs.lists.count_conversations.Goals as goal

pub returns-in_ok-note : goal.returns-in_ok-note
returns-in_ok-note c =
    c.in_ok-note.ensures ∙ sym
    (long_copy conversation_declaration
    (λ (one : ConversationDeclaration). one.name.place) 64 c.args.finder.now c.args.conversations.now _ c.if-conversations-gt-MOST_CONNECTIONS.true)
