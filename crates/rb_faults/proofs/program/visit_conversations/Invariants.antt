use Rattle.std.proofs.Common.{◌≡◌, drop, map}
use Rattle.std.specs.List.{flat_map}
use Rattle.rb_syntax.specs.Plain.{conversation_declaration}
use Rattle.rb_scope.specs.Sites.{conversation_sites}
use Rattle.rb_faults.specs.Finding.{visited}
use Rattle.rb_faults.specs.Memory.{spot_of}
use Rattle.rb_faults.proofs.program.visit_conversations.Given as goal

-- what is found, and then behind the others
abbrev pub invariant-loop-conversation : goal.invariant-loop-conversation
invariant-loop-conversation l =
    visited l.finder (flat_map (conversation_sites (spot_of l.spot)) (map conversation_declaration (drop l.conversation-index l.all)))
    ≡ visited l.fn.finder (flat_map (conversation_sites (spot_of l.spot)) (map conversation_declaration l.all))
