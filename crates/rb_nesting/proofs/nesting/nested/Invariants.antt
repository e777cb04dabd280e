use Rattle.std.proofs.Common.{◌≡◌, ℕ, ◌++◌, drop, length, map, Some, slice_get}
use Rattle.rb_base.specs.declared.names.Group.{Group}
use Rattle.rb_syntax.specs.Plain.{conversation_declaration, tree}
use Rattle.rb_meaning.specs.Groups.{membership_of}
use Rattle.rb_meaning.specs.Nesting.{alternates_of}
use Rattle.rb_nest.specs.Groups.{membership}
use Rattle.rb_nesting.proofs.nesting.nested.Given as goal

-- those so far, and the others
abbrev pub invariant-loop-number : goal.invariant-loop-number
invariant-loop-number l =
    let whole = tree l.uses.program.now in
    let all = map conversation_declaration l.conversation-items in
    let others = map conversation_declaration (drop l.number l.conversation-items) in
    let counts = map (λ (g : Group). g.alternates) l.conversations.items in
    record {
      as_many : length l.conversations.items ≡ l.number;
      groups : map membership l.conversations.items ++ map (membership_of whole) others ≡ map (membership_of whole) all;
      counts : (c n : ℕ) → slice_get counts c ≡ Some n → alternates_of whole c ≡ Some n;
    }
