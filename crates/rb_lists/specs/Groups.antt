-- What is asked of a conversation alone, and of it and its parent.
use Rattle.std.specs.Prelude.{◌≡◌, ℕ, ◌<◌, ◌≤◌, nat_eq, List, length, slice_get, Some}
use Rattle.std.specs.List.{All, IsDistinct}
use Rattle.rb_world.specs.Kind.{Membership}
use Rattle.rb_code.specs.SoundCode.Sound.{IsMember}

-- two or more members, all different, and each one of so many processes
pub record HasMembers (processes : ℕ) (group : Membership) : Type 0 where
  pub two : 2 ≤ length group.members
  pub differ : IsDistinct nat_eq group.members
  pub there : All (λ (m : ℕ). m < processes) group.members

-- the parent is there, and each member is one of it
pub record HasParent (groups : List Membership) (group : Membership) : Type 0 where
  pub parent : (d : ℕ) → group.parent ≡ Some d
      → (around : Membership) × (slice_get groups d ≡ Some around) × All (λ (m : ℕ). IsMember m around.members) group.members
