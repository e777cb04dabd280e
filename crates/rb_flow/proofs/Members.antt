-- The members and the parent of a conversation are those that are declared.
use Rattle.std.proofs.Common.{◌≡◌, ℕ, zero, suc, List, [], ◌∷◌, map, slice_get, Option, Some, None, refl, sym, ap, ◌∙◌}
use Rattle.rb_base.specs.declared.names.Group.{Group}
use Rattle.rb_world.specs.Kind.{Membership}
use Rattle.rb_world.specs.Reject.{parent_of}
use Rattle.rb_world.specs.Turn.{members_of}
use Rattle.rb_conv.specs.Conversations.{Conversation, membership, opened, outsider}
use Rattle.rb_conv.specs.declared.member.Member.{Member}

pub members_declared : (members : List ℕ) → map (λ (m : Member). m.process) (map outsider members) ≡ members
members_declared [] = refl
members_declared (m ∷ members) = ap (λ ms. m ∷ ms) (members_declared members)

abbrev declared : Option Group → List ℕ
declared None = []
declared (Some group) = group.members.items

members_at : (groups : List Group) (d : ℕ) → members_of (slice_get (map membership (map opened groups)) d) ≡ declared (slice_get groups d)
members_at [] d = refl
members_at (group ∷ groups) zero = members_declared group.members.items
members_at (group ∷ groups) (suc d) = members_at groups d

pub members_found : (groups : List Group) (d : ℕ) (group : Group) → slice_get groups d ≡ Some group
    → members_of (slice_get (map membership (map opened groups)) d) ≡ group.members.items
members_found groups d group is = members_at groups d ∙ ap declared is

pub members_missing : (groups : List Group) (d : ℕ) → slice_get groups d ≡ None
    → members_of (slice_get (map membership (map opened groups)) d) ≡ []
members_missing groups d is = members_at groups d ∙ ap declared is

abbrev parent_declared : Option Group → Option ℕ
parent_declared None = None
parent_declared (Some group) = group.parent

parent_at : (groups : List Group) (d : ℕ) → parent_of (slice_get (map membership (map opened groups)) d) ≡ parent_declared (slice_get groups d)
parent_at [] d = refl
parent_at (group ∷ groups) zero = refl
parent_at (group ∷ groups) (suc d) = parent_at groups d

pub parent_found : (groups : List Group) (d : ℕ) (group : Group) → slice_get groups d ≡ Some group
    → parent_of (slice_get (map membership (map opened groups)) d) ≡ group.parent
parent_found groups d group is = parent_at groups d ∙ ap parent_declared is

pub parent_missing : (groups : List Group) (d : ℕ) → slice_get groups d ≡ None
    → parent_of (slice_get (map membership (map opened groups)) d) ≡ None
parent_missing groups d is = parent_at groups d ∙ ap parent_declared is

-- a conversation of the definitions is one that is declared
pub group_found : (groups : List Group) (d : ℕ) (group : Membership) → slice_get (map membership (map opened groups)) d ≡ Some group
    → (one : Group) × (slice_get groups d ≡ Some one) × (group.members ≡ one.members.items)
    × (slice_get (map (λ (o : Conversation). o.alternates) (map opened groups)) d ≡ Some one.alternates)
group_found [] d group is = let wrong : ⊥ = cc in absurd wrong
group_found (one ∷ groups) zero group is =
    let same : membership (opened one) ≡ group = cc
    in (one, refl, ap (λ (g : Membership). g.members) (sym same) ∙ members_declared one.members.items, refl)
group_found (one ∷ groups) (suc d) group is = group_found groups d group is

pub group_at : (groups : List Group) (d : ℕ) (one : Group) → slice_get groups d ≡ Some one
    → (slice_get (map membership (map opened groups)) d ≡ Some (membership (opened one)))
    × (slice_get (map (λ (o : Conversation). o.alternates) (map opened groups)) d ≡ Some one.alternates)
group_at [] d one is = let wrong : ⊥ = cc in absurd wrong
group_at (g ∷ groups) zero one is =
    let same : g ≡ one = cc in (ap (λ (x : Group). Some (membership (opened x))) same, ap (λ (x : Group). Some x.alternates) same)
group_at (g ∷ groups) (suc d) one is = group_at groups d one is
