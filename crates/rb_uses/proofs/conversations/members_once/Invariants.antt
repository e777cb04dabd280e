use Rattle.std.proofs.Common.{◌≡◌, [], length, map}
use Rattle.rb_syntax.specs.Tree.{Identifier}
use Rattle.rb_syntax.specs.Plain.{identifier, tree}
use Rattle.rb_meaning.specs.Groups.{process_number}
use Rattle.rb_uses.specs.Members.{with_members}
use Rattle.rb_uses.proofs.conversations.members_once.Given as goal

-- those so far, and then the others
abbrev pub invariant-names : goal.invariant-names
invariant-names l =
    let number = λ (name : Identifier). process_number (tree l.program) name.text in
    with_members l.members.items (map number (map identifier l.rest)) ≡ with_members [] (map number (map identifier l.fn.names))

abbrev pub decreases-names : goal.decreases-names
decreases-names l = length l.rest
