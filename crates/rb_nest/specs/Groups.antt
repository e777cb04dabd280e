-- The conversations that a tree declares, as they lie in memory.
use Rattle.std.specs.Prelude.{ℕ, List, map}
use Rattle.rb_base.specs.declared.names.Group.{Group}
use Rattle.rb_base.specs.declared.names.Nested.{Nested}
use Rattle.rb_world.specs.Kind.{Membership}

-- a conversation's members and its parent
abbrev pub membership : Group → Membership
membership group = record { members = group.members.items; parent = group.parent }

-- the members and parents of all conversations
abbrev pub memberships : Nested → List Membership
memberships nested = map membership nested.conversations.items

-- how many alternates each has
abbrev pub alternates : Nested → List ℕ
alternates nested = map (λ group. group.alternates) nested.conversations.items
