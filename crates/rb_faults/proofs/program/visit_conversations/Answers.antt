use Rattle.std.proofs.Common.{map, refl}
use Rattle.std.specs.List.{flat_map}
use Rattle.rb_syntax.specs.declared.program.Conversation.{Conversation}
use Rattle.rb_syntax.specs.Plain.{conversation_declaration}
use Rattle.rb_scope.specs.Sites.{conversation_sites}
use Rattle.rb_faults.specs.Memory.{spot_of}
use Rattle.rb_faults.proofs.Visited.{step}
use Rattle.rb_faults.proofs.program.visit_conversations.Goals as goal

pub loop-conversation-preserved : goal.loop-conversation-preserved
loop-conversation-preserved c =
    step (λ all. flat_map (conversation_sites (spot_of c.args.spot.now)) (map conversation_declaration all))
    (λ (one : Conversation). conversation_sites (spot_of c.args.spot.now) (conversation_declaration one)) (λ x xs. refl)
    c.args.all.now c.loop-conversation.conversation-index c.conversation-item.result c.conversation-item.is c.loop-conversation-test.true
    c.loop-conversation.finder c.visit_conversation.new.finder _ c.loop-conversation.invariant c.in_ok-visit_conversation.ensures
