-- Nested levels: a level of a conversation has a level of the conversation right around it just outside it, or none outside it
-- where no conversation lies around (nesting: Randell 1975).
use Rattle.std.specs.Prelude.{◌≡◌, ℕ, zero, suc, List, slice_get, Option, Some, None}
use Rattle.rb_world.specs.Kind.{Membership}
use Rattle.rb_world.specs.World.{Level}
use Rattle.rb_world.specs.Reject.{parent_of}

-- level number i is one of conversation c
pub record IsLevelOf {C : Type 0} (c : ℕ) (levels : List (Level C)) (i : ℕ) : Type 0 where
  pub level : Level C
  pub there : slice_get levels i ≡ Some level
  pub of_it : level.facts.conversation ≡ Some c

-- just outside level number i stands a level of this conversation, or level i is the outermost where there is none
abbrev pub HasOutside : {C : Type 0} → Option ℕ → List (Level C) → ℕ → Type 0
HasOutside None levels i = i ≡ 0
HasOutside (Some d) levels zero = ⊥
HasOutside (Some d) levels (suc j) = IsLevelOf d levels j

-- each level of a conversation has its parent's level just outside it
abbrev pub AreNested : {C : Type 0} → List Membership → List (Level C) → Type 0
AreNested groups levels = (i c : ℕ) → IsLevelOf c levels i → HasOutside (parent_of (slice_get groups c)) levels i
