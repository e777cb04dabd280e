-- Which processes are members of which conversation, as memory keeps it.
use Rattle.std.specs.Prelude.{◌≡◌, map}
use Rattle.rb_base.specs.declared.names.Nested.{Nested}
use Rattle.rb_syntax.specs.Tree.{Tree}
use Rattle.rb_meaning.specs.Groups.{groups_of}

-- these are the members of the tree's conversations
abbrev pub HasMembers : Tree → Nested → Type 0
HasMembers tree nested = map (λ group. group.members.items) nested.conversations.items ≡ map (λ group. group.members) (groups_of tree)
