use Rattle.std.proofs.Common.{◌≡◌, ◌++◌, drop, map}
use Rattle.std.specs.List.{flat_map}
use Rattle.rb_syntax.specs.Plain.{conversation_declaration, tree}
use Rattle.rb_scope.specs.Finding.{first_after}
use Rattle.rb_uses.specs.Members.{known, known_from}
use Rattle.rb_nest.specs.Rules.{conversation_faults}
use Rattle.rb_uses.proofs.conversations.facts_of_conversations.Given as goal

-- what is known and found, and then of the other conversations
abbrev pub invariant-loop-number : goal.invariant-loop-number
invariant-loop-number l =
    let whole = tree l.uses.program.now in
    let all = map conversation_declaration l.conversation-items in
    let others = map conversation_declaration (drop l.number l.conversation-items) in
    record {
      facts : map known l.all.items ++ known_from whole l.number others ≡ known_from whole 0 all;
      found : first_after l.first (flat_map (conversation_faults whole) others) ≡ first_after l.fn.first (flat_map (conversation_faults whole) all);
    }
