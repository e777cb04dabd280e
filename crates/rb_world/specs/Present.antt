-- Members of a conversation try its alternates together: each open level of it tries the conversation's present alternate
-- (Randell 1975 has them go on together, whoever entered when).
use Rattle.std.specs.Prelude.{◌≡◌, ℕ, List, slice_get, Some}
use Rattle.rb_world.specs.World.{Level, Talk}
use Rattle.rb_world.specs.Nested.{IsLevelOf}

-- a level tries the present alternate of conversation c
pub record IsPresent {C : Type 0} (talks : List Talk) (c : ℕ) (level : Level C) : Type 0 where
  pub talk : Talk
  pub there : slice_get talks c ≡ Some talk
  pub same : level.alternate ≡ talk.alternate

-- each of these levels that is one of a conversation tries its present alternate
abbrev pub TryPresent : {C : Type 0} → List Talk → List (Level C) → Type 0
TryPresent talks levels = (i c : ℕ) (at : IsLevelOf c levels i) → IsPresent talks c at.level
